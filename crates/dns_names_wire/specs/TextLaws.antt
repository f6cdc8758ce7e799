-- What follows from the definitions of texts (RFC 1035, section 5.1, but with octal escapes). Each is the clause of a
-- public function, and so proved.
use Rattle.std.specs.Prelude.{◌≡◌, ℕ, true, if◌then◌else◌, List, [], ◌∷◌, ◌++◌, length, Ok}
use Rattle.std.specs.List.{AllByRecursion}
use Rattle.std.specs.Str.{chars}
use Rattle.dnw_base.specs.Names.{NameValue, AreLabels, wire}
use Rattle.dnw_name_form.specs.LabelText.{dot}
use Rattle.dnw_name_read.specs.Reading.{NameAt}
use Rattle.dnw_name_read.specs.ReadingLaws.{AreBytes}
use Rattle.dnw_name_text.specs.AsciiText.{name_from_text, name_text, IsLabelText}

-- each octet of each label is below 256
abbrev pub AreByteLabels : List (List ℕ) → Type 0
AreByteLabels labels = AllByRecursion AreBytes labels

-- Names with different labels or different flags have different texts.
abbrev pub TextsDiffer : Type 0
TextsDiffer = (n m : NameValue) → AreLabels n.labels → AreLabels m.labels → AreByteLabels n.labels → AreByteLabels m.labels
    → name_text n ≡ name_text m → n ≡ m

-- The labels of a name that is read in a message have such octets.
abbrev pub ReadLabelsAreBytes : Type 0
ReadLabelsAreBytes = (b : List ℕ) (p : ℕ) (labels : List (List ℕ)) (e k : ℕ) → AreBytes b → NameAt b p labels e k → AreByteLabels labels

-- So do labels that stand for themselves as text.
abbrev pub TextLabelsAreBytes : Type 0
TextLabelsAreBytes = (labels : List (List ℕ)) → AllByRecursion IsLabelText labels → AreByteLabels labels

-- A text that is accepted gives labels of a name, and each stands for itself as text.
abbrev pub AcceptedLabels : Type 0
AcceptedLabels = (text : List ℕ) (n : NameValue) → name_from_text text ≡ Ok n → AreLabels n.labels × AllByRecursion IsLabelText n.labels

-- The text that is written for such a name is read back as the name.
abbrev pub AcceptedReadBack : Type 0
AcceptedReadBack = (text : List ℕ) (n : NameValue) → name_from_text text ≡ Ok n → name_from_text (chars (name_text n)) ≡ Ok n

-- the same labels, fully qualified: what the wire form of a name says
abbrev pub qualified : NameValue → NameValue
qualified n = record { is_fqdn = true; labels = n.labels }

-- The text of a name, with a last dot if it has none. That of the relative name without labels becomes the root's.
abbrev pub dotted_text : NameValue → List ℕ
dotted_text n = if n.is_fqdn then name_text n else name_text n ++ dot ∷ []

-- Reading the wire form of a name returns its labels, and they are written as the name's own text with a last dot.
abbrev pub BytesAndTextsAgree : Type 0
BytesAndTextsAgree = (n : NameValue) → AreLabels n.labels
    → NameAt (wire n.labels) 0 n.labels (length (wire n.labels)) 0 × (name_text (qualified n) ≡ dotted_text n)
