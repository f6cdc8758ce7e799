-- What the reader of a name's text holds, and labels that are read whole.
use Rattle.std.specs.Prelude.{◌≡◌, ℕ, ◌+◌, ◌-◌, ◌*◌, ◌<◌, ◌≤◌, ◌⊎◌, ⊤, Bool, true, ◌||◌, ◌&&◌, ◌==◌, nat_lt, if◌then◌else◌, List, [], ◌∷◌, ◌++◌, length, take, drop, get_or, Result, Ok, Err, encode_utf8}
use Rattle.std.specs.List.{list_all}
use Rattle.std.specs.Str.{chars, IsCharBoundary}
use Rattle.dnw_base.specs.Fault.{Fault, UnrecognizedChar, IllegalChar, ◌>>=◌}
use Rattle.dnw_base.specs.Labels.{IsLabel}
use Rattle.dnw_base.specs.Labels.{asterisk}
use Rattle.dnw_name_form.specs.LabelText.{backslash, dash, dot, is_safe, label_from_text}
use Rattle.dnw_base.specs.Names.{NameValue, AreLabels, wire}
use Rattle.dnw_name_form.specs.Edits.{with_label}
use Rattle.dnw_name_text.specs.AsciiText.{State, Outside, Escaped, AfterOne, AfterTwo, TextElement, Char, Dot, Stop, elements, is_octal_digit, name_from_elements}
use Rattle.dnw_name_text.specs.declared.ascii.State.{State as Held}
use Rattle.dnw_name_text.specs.declared.ascii.State.TheVariants.{Outside as HeldOutside, Escaped as HeldEscaped, AfterOne as HeldAfterOne, AfterTwo as HeldAfterTwo}
use Rattle.dnw_name_text.specs.declared.ascii.TextReader.{TextReader}
use Rattle.dnw_name_text.specs.declared.ascii.Move.{Move}
use Rattle.dnw_name_text.specs.declared.ascii.Move.TheVariants.{Enter, Char as Add, Dot as End, Unrecognized, Illegal}

-- the state that the reader holds
abbrev pub state_of : Held → State
state_of HeldOutside = Outside
state_of HeldEscaped = Escaped
state_of (HeldAfterOne a) = AfterOne a
state_of (HeldAfterTwo a b) = AfterTwo a b

-- the elements that a move at the character c gives, and those of the characters after it
abbrev pub elements_from : Move → ℕ → List ℕ → List TextElement
elements_from (Enter state) c cs = elements (state_of state) cs
elements_from (Add char) c cs = Char char ∷ elements Outside cs
elements_from End c cs = Dot ∷ elements Outside cs
elements_from Unrecognized c cs = Stop (UnrecognizedChar c) ∷ []
elements_from Illegal c cs = Stop (IllegalChar c) ∷ []

-- a state that a move leads to is within an escape
abbrev pub LeadsInside : Move → Type 0
LeadsInside (Enter HeldOutside) = ⊥
LeadsInside move = ⊤

-- the bytes of the escape so far
abbrev pub escape_len : Held → ℕ
escape_len HeldOutside = 0
escape_len HeldEscaped = 1
escape_len (HeldAfterOne a) = 2
escape_len (HeldAfterTwo a b) = 3

-- a move adds no more than n bytes
abbrev pub IsNoLonger : ℕ → Move → Type 0
IsNoLonger n (Enter state) = escape_len state ≤ n
IsNoLonger n (Add char) = length (encode_utf8 char) ≤ n
IsNoLonger n move = ⊤

-- the same bytes, or as many, and too many for a label
abbrev pub IsAlike : List ℕ → List ℕ → Type 0
IsAlike a b = (a ≡ b) ⊎ ((63 < length a) × (length a ≡ length b))

-- a letter, a digit, `-` or `_`: a character that stands for itself
abbrev pub is_simple : ℕ → Bool
is_simple c = nat_lt c 128 && (is_safe c || c == dash)

-- The text begins with n simple characters.
pub record IsRun (text : List ℕ) (n : ℕ) : Type 0 where
  pub few : n ≤ length text
  pub simple : list_all is_simple (take n text) ≡ true

-- the same, or `*`
abbrev pub is_own : ℕ → Bool
is_own c = nat_lt c 128 && (is_safe c || c == dash || c == asterisk)

-- The label is made of characters that stand for themselves, and they give it.
pub record IsSimpleLabel (label : List ℕ) : Type 0 where
  pub own : list_all is_own label ≡ true
  pub is_label : IsLabel label
  pub written : label_from_text label ≡ Ok label

-- The text begins with a simple label of n bytes, and a dot follows.
pub record IsDottedLabel (text : List ℕ) (n : ℕ) : Type 0 where
  pub inside : n < length text
  pub simple : IsSimpleLabel (take n text)
  pub dotted : get_or text n 0 ≡ dot

-- what reading gives if it stops
abbrev pub fails_with : Fault → Result NameValue Fault
fails_with fault = Err fault

-- what reading the characters gives, after the labels so far and the text collected for the next one
unfoldable pub name_from_rest : List (List ℕ) → List ℕ → State → List ℕ → Result NameValue Fault
name_from_rest ls text state cs = name_from_elements ls text (elements state cs)

-- the same, after what a reader has read
unfoldable pub name_from : TextReader → List ℕ → Result NameValue Fault
name_from r cs = name_from_rest r.form r.label (state_of r.state) cs

-- the bytes that a reader has counted and those of its escape so far
abbrev pub reader_len : TextReader → ℕ
reader_len r = length r.label + escape_len r.state

-- The octets are the wire form of the name that the text gives: with the zero of the last dot, or with one more.
pub record PutsLengths (text octets : List ℕ) (is_fqdn : Bool) : Type 0 where
  pub labels : List (List ℕ)
  pub are_labels : AreLabels labels
  pub name : name_from_rest [] [] Outside (chars text) ≡ Ok (record { is_fqdn = is_fqdn; labels = labels })
  pub form : octets ≡ wire labels ++ (if is_fqdn then 0 ∷ [] else [])

-- The text begins with n bytes that add these bytes to the label that is next, and may be cut after them.
pub record CutsText (text : List ℕ) (n : ℕ) (bytes : List ℕ) : Type 0 where
  pub inside : n ≤ length text
  pub cut : IsCharBoundary text n
  pub few : length bytes ≤ n
  pub read : (ls : List (List ℕ)) (label : List ℕ)
      → name_from_rest ls label Outside (chars text) ≡ name_from_rest ls (label ++ bytes) Outside (chars (drop n text))

-- The text begins with a label of n bytes and a dot, and may be cut after them.
pub record BeginsWithLabel (text : List ℕ) (n : ℕ) : Type 0 where
  pub inside : n < length text
  pub cut : IsCharBoundary text (n + 1)
  pub label : IsLabel (take n text)
  pub read : (ls : List (List ℕ)) → name_from_rest ls [] Outside (chars text)
      ≡ (with_label ls (take n text) >>= (λ longer. name_from_rest longer [] Outside (chars (drop (n + 1) text))))

-- The text begins with an octal escape of this character, and goes on with the rest.
pub record BeginsWithEscape (text : List ℕ) (char : ℕ) (rest : List ℕ) : Type 0 where
  pub a : ℕ
  pub b : ℕ
  pub c : ℕ
  pub spelled : text ≡ backslash ∷ a ∷ b ∷ c ∷ rest
  pub digits : (is_octal_digit a ≡ true) × (is_octal_digit b ≡ true) × (is_octal_digit c ≡ true)
  pub value : char ≡ 64 * (a - 48) + 8 * (b - 48) + (c - 48)
