-- Names, character by character.
use Rattle.std.specs.Prelude.{◌≡◌, ◌+◌, ◌<◌, ℕ, ⊤, Bool, List, [], Result, Ok, Err, length, take, drop}
use Rattle.dnw_name_text.specs.declared.error.NameTextError.{NameTextError}
use Rattle.dnw_name_text.specs.declared.reading.Escape.{Escape}
use Rattle.dnw_name_text.specs.declared.reading.Escape.TheVariants.{AfterOne, AfterTwo}
use Rattle.dnw_name_text.specs.declared.reading.Element.{Element}
use Rattle.dnw_name_text.specs.declared.reading.Element.TheVariants.{Within}
use Rattle.dnw_name_text.specs.declared.reading.Escape.TheVariants.{Outside}
use Rattle.dnw_name_text.specs.declared.reading.Step.{Step}
use Rattle.dnw_name_text.specs.declared.reading.Step.TheVariants.{Next, End}
use Rattle.dnw_name_text.specs.NameReading.{Parsed, labels_from}

-- the digits so far are digits
abbrev pub IsEscape : Escape → Type 0
IsEscape (AfterOne a) = a < 10
IsEscape (AfterTwo a b) = (a < 10) × (b < 10)
IsEscape other = ⊤

abbrev pub IsTextElement : Element → Type 0
IsTextElement (Within escape) = IsEscape escape
IsTextElement other = ⊤

-- The labels become these, or cannot.
abbrev pub MakesLabels : Parsed (List (List ℕ)) → Result Unit NameTextError → List (List ℕ) → Type 0
MakesLabels wanted (Ok done) new = wanted ≡ Ok new
MakesLabels wanted (Err error) new = wanted ≡ Err error

-- The same, with whether the name is fully qualified.
abbrev pub MakesName : Parsed (List (List ℕ) × Bool) → Result Bool NameTextError → List (List ℕ) → Type 0
MakesName wanted (Ok is_fqdn) new = wanted ≡ Ok (new, is_fqdn)
MakesName wanted (Err error) new = wanted ≡ Err error

-- The text begins with n octets of a label that stand for themselves.
abbrev pub BeginsPlain : List ℕ → ℕ → Type 0
BeginsPlain text n = (at : ℕ) (done : List (List ℕ))
    → labels_from at done [] Outside text ≡ labels_from (at + n) done (take n text) Outside (drop n text)

-- The first label is added, and the others are read on with it; or it was the last one; or it cannot be added.
abbrev pub MakesStep : ℕ → List ℕ → List (List ℕ) → Result Step NameTextError → List (List ℕ) → Type 0
MakesStep at text old (Ok (Next start rest)) new =
    (labels_from at old [] Outside text ≡ labels_from start new [] Outside rest.now) × (start + length rest.now ≡ at + length text) × (length rest.now < length text)
MakesStep at text old (Ok (End is_fqdn)) new = labels_from at old [] Outside text ≡ Ok (new, is_fqdn)
MakesStep at text old (Err error) new = labels_from at old [] Outside text ≡ Err error
