-- Where a text that gives no name goes wrong, and the rule that it breaks there (RFC 1035, sections 2.3.4 and 5.1).
use Rattle.std.specs.Prelude.{◌≡◌, ℕ, ◌<◌, List, [], ◌∷◌, ◌++◌, length, take, Result, Ok, Err}
use Rattle.std.specs.Str.{encode_utf8_all}
use Rattle.dnw_base.specs.Fault.{Fault}
use Rattle.dnw_base.specs.Fault as why
use Rattle.dnw_base.specs.Names.{NameValue}
use Rattle.dnw_name_text.specs.AsciiText.{name_from_text}
use Rattle.dnw_name_text.specs.declared.ascii_fault.TextFault.{TextFault}
use Rattle.dnw_name_text.specs.declared.ascii_fault.TextRule.{TextRule}
use Rattle.dnw_name_text.specs.declared.ascii_fault.TextRule.TheVariants.{EmptyLabel, LabelTooLong, NameTooLong, Character, Digit, UnfinishedEscape}

-- the rule that is broken if reading fails so
abbrev pub rule_of : Fault → TextRule
rule_of why.EmptyLabel = EmptyLabel
rule_of (why.MalformedLabel []) = EmptyLabel
rule_of (why.MalformedLabel (b ∷ bs)) = Character
rule_of (why.LabelTooLong bytes) = LabelTooLong
rule_of (why.NameTooLong size) = NameTooLong
rule_of (why.UnrecognizedChar char) = Character
rule_of (why.IllegalChar char) = Digit
rule_of why.UnfinishedEscape = UnfinishedEscape
rule_of why.UnconvertedLabels = Character

-- reading the characters gives a name
abbrev pub Gives : (List ℕ → Result NameValue Fault) → List ℕ → Type 0
Gives read cs = (name : NameValue) × (read cs ≡ Ok name)

-- What is before the offset gives a name. With the character or the escape that follows there, none is given, whatever comes
-- after; or the characters end in that escape.
pub record GoesWrongBy (read : List ℕ → Result NameValue Fault) (cs : List ℕ) (wrong : TextFault) : Type 0 where
  pub front : List ℕ
  pub unit : List ℕ
  pub rest : List ℕ
  pub fault : Fault
  pub parts : cs ≡ front ++ (unit ++ rest)
  pub offset : wrong.offset ≡ length (encode_utf8_all front)
  pub before : Gives read front
  pub within : (n : ℕ) → 0 < n → n < length unit → read (front ++ take n unit) ≡ Err why.UnfinishedEscape
  pub fails : read (front ++ unit) ≡ Err fault
  pub rule : wrong.rule ≡ rule_of fault
  pub last : fault ≡ why.UnfinishedEscape → rest ≡ []
  pub hopeless : (fault ≡ why.UnfinishedEscape → ⊥) → (more : List ℕ) → Gives read (front ++ (unit ++ more)) → ⊥

-- the same of the texts of names
abbrev pub IsNameText : List ℕ → Type 0
IsNameText = Gives name_from_text

abbrev pub GoesWrong : List ℕ → TextFault → Type 0
GoesWrong = GoesWrongBy name_from_text
