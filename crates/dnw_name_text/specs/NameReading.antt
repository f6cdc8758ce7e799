-- Which names texts give (RFC 1035, section 5.1): `@` is the origin, and a name without a dot at its end is completed by it.
-- Without an origin such a name is relative, and `@` is the relative name without labels.
use Rattle.std.specs.Prelude.{ℕ, ◌+◌, ◌-◌, ◌*◌, ◌==◌, Bool, true, false, ◌&&◌, nat_lt, if◌then◌else◌, List, [], ◌∷◌, ◌++◌, length, Option, Some, None, Result, Ok, Err}
use Rattle.std.specs.Char.{is_ascii_digit}
use Rattle.dnw_base.specs.Fault.{Fault}
use Rattle.dnw_base.specs.Limits.{max_label}
use Rattle.dnw_base.specs.Names.{NameValue}
use Rattle.dnw_name_form.specs.Edits.{with_label, with_labels}
use Rattle.dnw_name_form.specs.LabelText.{dot, backslash}
use Rattle.dnw_name_text.specs.declared.error.NameTextError.{NameTextError}
use Rattle.dnw_name_text.specs.declared.error.NameTextRule.{NameTextRule}
use Rattle.dnw_name_text.specs.declared.error.NameTextRule.TheVariants.{EmptyLabel, LabelTooLong, NameTooLong, BadEscape, UnfinishedEscape}
use Rattle.dnw_name_text.specs.declared.reading.Escape.{Escape}
use Rattle.dnw_name_text.specs.declared.reading.Escape.TheVariants.{Outside, Escaped, AfterOne, AfterTwo}
use Rattle.dnw_name_text.specs.declared.reading.Element.{Element}
use Rattle.dnw_name_text.specs.declared.reading.Element.TheVariants.{Octet, Dot, Within, Fault as NoElement}

-- what a text gives, or why it gives nothing
abbrev pub Parsed : Type 0 → Type 0
Parsed A = Result A NameTextError

-- at this offset the text is against a rule
abbrev pub breaks : {A : Type 0} → ℕ → NameTextRule → Parsed A
breaks at rule = Err (record { offset = at; rule = rule })

abbrev pub parsed_then : {A B : Type 0} → Parsed A → (A → Parsed B) → Parsed B
parsed_then (Ok x) f = f x
parsed_then (Err error) f = Err error

-- what a character is: an octet of a label, the dot after one, a part of an escape, or none of these
abbrev pub element : Escape → ℕ → Element
element Outside c = if c == dot then Dot else if c == backslash then Within Escaped else Octet c
element Escaped c = if is_ascii_digit c then Within (AfterOne (c - 48)) else Octet c
element (AfterOne a) c = if is_ascii_digit c then Within (AfterTwo a (c - 48)) else NoElement
element (AfterTwo a b) c =
    if is_ascii_digit c && nat_lt (100 * a + 10 * b + (c - 48)) 256 then Octet (100 * a + 10 * b + (c - 48)) else NoElement

-- what an element at an offset gives: each case in turn
abbrev pub on_element : {A : Type 0} → ℕ → Element → (ℕ → Parsed A) → Parsed A → (Escape → Parsed A) → Parsed A
on_element at (Octet o) octet ended within = octet o
on_element at Dot octet ended within = ended
on_element at (Within escape) octet ended within = within escape
on_element at NoElement octet ended within = breaks at BadEscape

-- a name that is longer than 255 octets is too long where its last label ends
abbrev pub or_too_long : {A : Type 0} → ℕ → Result A Fault → Parsed A
or_too_long at (Ok x) = Ok x
or_too_long at (Err fault) = breaks at NameTooLong

-- the labels with one more of 1 to 63 octets, which ends before this offset
abbrev pub one_label_more : ℕ → List (List ℕ) → List ℕ → Parsed (List (List ℕ))
one_label_more at labels label = if length label == 0 then breaks at EmptyLabel else or_too_long at (with_label labels label)

-- The labels, and whether a dot is after the last one.
abbrev pub ended : ℕ → List (List ℕ) → List ℕ → Escape → Parsed (List (List ℕ) × Bool)
ended at labels [] Outside = Ok (labels, true)
ended at labels (o ∷ label) Outside = parsed_then (one_label_more at labels (o ∷ label)) (λ longer. Ok (longer, false))
ended at labels label within = breaks at UnfinishedEscape

-- the labels of a text from this offset on, after those so far and the octets of the next one
abbrev pub labels_from : ℕ → List (List ℕ) → List ℕ → Escape → List ℕ → Parsed (List (List ℕ) × Bool)
labels_from at labels label escape [] = ended at labels label escape
labels_from at labels label escape (c ∷ cs) =
    on_element at (element escape c)
    (λ o. if nat_lt (length label) max_label then labels_from (at + 1) labels (label ++ o ∷ []) Outside cs else breaks at LabelTooLong)
    (parsed_then (one_label_more at labels label) (λ longer. labels_from (at + 1) longer [] Outside cs))
    (λ within. labels_from (at + 1) labels label within cs)

-- the labels of a whole text, and whether the name is fully qualified
abbrev pub labels_of_text : List ℕ → Parsed (List (List ℕ) × Bool)
labels_of_text [] = breaks 0 EmptyLabel
labels_of_text (c ∷ []) =
    if c == dot then Ok ([], true)
    else if c == 64 then Ok ([], false)
    else labels_from 0 [] [] Outside (c ∷ [])
labels_of_text (c ∷ d ∷ cs) = labels_from 0 [] [] Outside (c ∷ d ∷ cs)

-- Relative labels are completed by those of the origin, if there is one. A name that is too long by them is so at the text's end.
abbrev pub completed_at : ℕ → Option (List (List ℕ)) → List (List ℕ) × Bool → Parsed NameValue
completed_at end origin (labels, true) = Ok (record { is_fqdn = true; labels = labels })
completed_at end None (labels, false) = Ok (record { is_fqdn = false; labels = labels })
completed_at end (Some origin) (labels, false) =
    parsed_then (or_too_long end (with_labels labels origin)) (λ all. Ok (record { is_fqdn = true; labels = all }))

-- the name that a text gives with the labels of an origin, or why it gives none
abbrev pub name_of_text : Option (List (List ℕ)) → List ℕ → Parsed NameValue
name_of_text origin text = parsed_then (labels_of_text text) (completed_at (length text) origin)

-- the labels of an origin
abbrev pub origin_labels : Option NameValue → Option (List (List ℕ))
origin_labels None = None
origin_labels (Some origin) = Some origin.labels
