-- The octets of labels that are read, and of label texts, are below 256.
use Rattle.std.proofs.Common.{◌≡◌, ℕ, zero, suc, true, List, [], ◌∷◌, arith}
use Rattle.std.specs.List.{AllByRecursion, list_all}
use Rattle.std.proofs.lemmas.Bool.{and_parts}
use Rattle.dnw_name_form.specs.LabelText.{may_begin, may_follow}
use Rattle.dnw_name_read.specs.Reading.{NameAt}
use Rattle.dnw_name_read.specs.ReadingLaws.{AreBytes}
use Rattle.dnw_name_text.specs.AsciiText.{IsLabelText}
use Rattle.dnw_name_text.proofs.ByteTexts.{IsRead_begin, IsRead_follow}
use Rattle.dnw_zone_data.proofs.FieldValues.{labels_fit}
use Rattle.dns_names_wire.specs.TextLaws.{AreByteLabels}

pub read_labels_are_bytes : (b : List ℕ) (p : ℕ) (labels : List (List ℕ)) (e k : ℕ) → AreBytes b → NameAt b p labels e k → AreByteLabels labels
read_labels_are_bytes b p labels e k bytes name = labels_fit bytes name.reads

-- the characters of a label's text are ASCII
follow_bytes : (bs : List ℕ) → list_all may_follow bs ≡ true → AreBytes bs
follow_bytes [] h i = omega arith
follow_bytes (b ∷ bs) h zero = omega (arith, (IsRead_follow b (and_parts (may_follow b) _ h).0).small)
follow_bytes (b ∷ bs) h (suc i) = follow_bytes bs (and_parts (may_follow b) _ h).1 i

label_bytes : (l : List ℕ) → IsLabelText l → AreBytes l
label_bytes [] h i = omega arith
label_bytes (b ∷ bs) h zero = omega (arith, (IsRead_begin b (and_parts (may_begin b) _ h).0).small)
label_bytes (b ∷ bs) h (suc i) = follow_bytes bs (and_parts (may_begin b) _ h).1 i

pub text_labels_are_bytes : (labels : List (List ℕ)) → AllByRecursion IsLabelText labels → AreByteLabels labels
text_labels_are_bytes [] h = tt
text_labels_are_bytes (l ∷ ls) h = (label_bytes l h.0, text_labels_are_bytes ls h.1)
