-- What a reader that only counts has read of a text, and the characters and escapes that it reads.
use Rattle.std.specs.Prelude.{◌≡◌, ℕ, ◌+◌, ◌<◌, ◌≤◌, true, List, [], ◌∷◌, ◌++◌, length, take, Option, Some, None, Result, Ok, Err}
use Rattle.std.specs.Borrow.{Bor}
use Rattle.std.specs.Str.{chars, IsUtf8}
use Rattle.dnw_base.specs.Fault.{Fault, UnfinishedEscape}
use Rattle.dnw_base.specs.Names.{NameValue, encoded_size}
use Rattle.dnw_name_form.specs.LabelText.{is_label_text}
use Rattle.dnw_name_text.specs.AsciiText.{Outside, TextElement, Char, Dot, Stop, elements, name_from_elements}
use Rattle.dnw_name_text.specs.AsciiFaults.{rule_of}
use Rattle.dnw_name_text.specs.Inside.TextReader.{state_of}
use Rattle.dnw_name_text.specs.declared.ascii.State.{State}
use Rattle.dnw_name_text.specs.declared.ascii_fault.TextRule.{TextRule}
use Rattle.dnw_name_text.specs.declared.ascii_fault.Progress.{Progress}
use Rattle.dnw_name_text.specs.declared.ascii_fault.Unit.{Unit as Held}
use Rattle.dnw_name_text.specs.declared.ascii_fault.Unit.TheVariants.{Dot as HeldDot, Char as HeldChar, Stop as HeldStop}

-- what reading gives from the start
abbrev pub from_start : List ℕ → Result NameValue Fault
from_start cs = name_from_elements [] [] (elements Outside cs)

-- The labels, and the bytes for the next one, give a name: these are their octets.
pub record HoldsLabels (p : Progress) (ls : List (List ℕ)) (label : List ℕ) : Type 0 where
  pub size : p.size ≡ encoded_size ls
  pub most : encoded_size ls ≤ 255
  pub len : p.label ≡ length label
  pub few : length label ≤ 63
  pub fits : 0 < length label → encoded_size ls + 1 + length label ≤ 255
  pub text : 0 < length label → is_label_text label ≡ true

-- the numbers are small
abbrev pub IsSmall : Progress → Type 0
IsSmall p = (p.size ≤ 255) × (p.label ≤ 63)

-- Reading goes on after an element: what follows gives what all gives.
abbrev pub GoesOnWith : TextElement → Progress → Progress → Type 0
GoesOnWith e p q = (ls : List (List ℕ)) → (label : List ℕ) → HoldsLabels p ls label
    → (longer : List (List ℕ)) × (next : List ℕ) × HoldsLabels q longer next
    × ((es : List TextElement) → name_from_elements ls label (e ∷ es) ≡ name_from_elements longer next es)

-- No name is given with an element, whatever follows.
pub record Breaks (ls : List (List ℕ)) (label : List ℕ) (e : TextElement) (rule : TextRule) : Type 0 where
  pub fault : Fault
  pub rule_is : rule ≡ rule_of fault
  pub other : fault ≡ UnfinishedEscape → ⊥
  pub fails : name_from_elements ls label (e ∷ []) ≡ Err fault
  pub hopeless : (es : List TextElement) (name : NameValue) → name_from_elements ls label (e ∷ es) ≡ Ok name → ⊥

abbrev pub BreaksAt : TextElement → Progress → TextRule → Type 0
BreaksAt e p rule = (ls : List (List ℕ)) → (label : List ℕ) → HoldsLabels p ls label → Breaks ls label e rule

-- each beginning of an escape but the whole is unfinished
abbrev pub IsUnfinished : List ℕ → ℕ → Type 0
IsUnfinished own n = elements Outside (take n own) ≡ Stop UnfinishedEscape ∷ []

-- The text begins with an element, and this is left after it.
pub record BeginsWithElement (text : List ℕ) (e : TextElement) (rest : List ℕ) : Type 0 where
  pub own : List ℕ
  pub parts : chars text ≡ own ++ chars rest
  pub within : (n : ℕ) → 0 < n → n < length own → IsUnfinished own n
  pub gives : (more : List ℕ) → elements Outside (own ++ more) ≡ e ∷ elements Outside more
  pub shorter : length rest < length text
  pub utf8 : IsUtf8 rest

-- The text begins with what stops reading.
pub record StopsText (text : List ℕ) (rule : TextRule) : Type 0 where
  pub own : List ℕ
  pub rest : List ℕ
  pub fault : Fault
  pub parts : chars text ≡ own ++ rest
  pub within : (n : ℕ) → 0 < n → n < length own → IsUnfinished own n
  pub ends : elements Outside own ≡ Stop fault ∷ []
  pub rule_is : rule ≡ rule_of fault
  pub last : fault ≡ UnfinishedEscape → rest ≡ []
  pub all : (fault ≡ UnfinishedEscape → ⊥) → (more : List ℕ) → elements Outside (own ++ more) ≡ Stop fault ∷ []

abbrev pub BeginsWithUnit : List ℕ → Held → Type 0
BeginsWithUnit text (HeldDot rest) = BeginsWithElement text Dot rest.now
BeginsWithUnit text (HeldChar c rest) = BeginsWithElement text (Char c) rest.now
BeginsWithUnit text (HeldStop rule) = StopsText text rule

-- the first character, and what is after it
abbrev pub BeginsWithChar : List ℕ → Option (ℕ × Bor (List ℕ)) → Type 0
BeginsWithChar text None = chars text ≡ []
BeginsWithChar text (Some (c, rest)) = (chars text ≡ c ∷ chars rest.now) × (length rest.now < length text) × IsUtf8 rest.now

-- Within an escape, or before the first character: what was read of the text, and what is left.
pub record IsWithinText (text : List ℕ) (state : State) (rest : List ℕ) : Type 0 where
  pub own : List ℕ
  pub parts : chars text ≡ own ++ chars rest
  pub reads : (more : List ℕ) → elements Outside (own ++ more) ≡ elements (state_of state) more
  pub within : (n : ℕ) → 0 < n → n ≤ length own → IsUnfinished own n
  pub shorter : length rest ≤ length text
  pub utf8 : IsUtf8 rest

-- What was read of a text gives a name, with these numbers, and what is left goes on from there.
pub record HasRead (text : List ℕ) (p : Progress) (rest : List ℕ) : Type 0 where
  pub front : List ℕ
  pub ls : List (List ℕ)
  pub label : List ℕ
  pub parts : chars text ≡ front ++ chars rest
  pub holds : HoldsLabels p ls label
  pub reads : (more : List ℕ) → from_start (front ++ more) ≡ name_from_elements ls label (elements Outside more)
  pub utf8 : IsUtf8 rest

-- A character or an escape was read, and this is left.
pub record ReadsTextOn (p q : Progress) (text rest : List ℕ) : Type 0 where
  pub own : List ℕ
  pub parts : chars text ≡ own ++ chars rest
  pub goes_on : (ls : List (List ℕ)) → (label : List ℕ) → HoldsLabels p ls label
      → (longer : List (List ℕ)) × (next : List ℕ) × HoldsLabels q longer next
      × ((more : List ℕ) → name_from_elements ls label (elements Outside (own ++ more)) ≡ name_from_elements longer next (elements Outside more))
  pub shorter : length rest < length text
  pub utf8 : IsUtf8 rest

-- Reading goes wrong at the first character or escape.
pub record GoesWrongNext (ls : List (List ℕ)) (label : List ℕ) (cs : List ℕ) (rule : TextRule) : Type 0 where
  pub own : List ℕ
  pub rest : List ℕ
  pub fault : Fault
  pub parts : cs ≡ own ++ rest
  pub within : (n : ℕ) → 0 < n → n < length own → name_from_elements ls label (elements Outside (take n own)) ≡ Err UnfinishedEscape
  pub fails : name_from_elements ls label (elements Outside own) ≡ Err fault
  pub rule_is : rule ≡ rule_of fault
  pub last : fault ≡ UnfinishedEscape → rest ≡ []
  pub hopeless : (fault ≡ UnfinishedEscape → ⊥) → (more : List ℕ) → (name : NameValue)
      → name_from_elements ls label (elements Outside (own ++ more)) ≡ Ok name → ⊥
