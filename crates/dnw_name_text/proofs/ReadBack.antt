-- The text of a name whose labels are all label texts is read back as the name.
use Rattle.std.proofs.Common.{◌≡◌, ℕ, ◌+◌, ◌≤◌, Bool, true, false, if◌then◌else◌, List, [], ◌∷◌, ◌++◌, length, Result, Ok, refl, ap, ◌∙◌, append_assoc, arith}
use Rattle.std.specs.List.{AllByRecursion, flat_map}
use Rattle.std.specs.Str.{chars}
use Rattle.std.proofs.lemmas.Bool.{and_parts, ne_eqb}
use Rattle.std.proofs.lemmas.Str.{chars-nil}
use Rattle.dnw_base.specs.Fault.{Fault, ◌>>=◌}
use Rattle.dnw_base.specs.Labels.{IsLabel}
use Rattle.dnw_name_form.specs.LabelText.{dot, may_begin, label_text, byte_text}
use Rattle.dnw_base.specs.Names.{NameValue, AreLabels, encoded_size}
use Rattle.dnw_name_text.specs.AsciiText.{Char, Dot, Outside, elements, name_from_text, name_text, IsLabelText}
use Rattle.dnw_name_text.specs.Inside.TextReader.{name_from_rest}
use Rattle.dnw_base.proofs.Wires.{encoded_size_push, encoded_size_cons}
use Rattle.dnw_name_text.proofs.Joined.{dotted, joined_cons}
use Rattle.dnw_name_text.proofs.Elements.{fits}
use Rattle.dnw_name_text.proofs.TextReading.{at_dot, at_end, at_last, plain_chars, chars_dot}
use Rattle.dnw_name_text.proofs.ByteTexts.{IsRead_begin}
use Rattle.dnw_name_text.proofs.LabelTexts.{Reads_label, Reads_chars, Reads_rest}

-- what a name's text ends with
abbrev last_dot : Bool → List ℕ
last_dot is_fqdn = if is_fqdn then dot ∷ [] else []

-- the labels with a dot before each
read_dotted : (more : List (List ℕ)) (is_fqdn : Bool) (ls : List (List ℕ)) (l : List ℕ)
    → AllByRecursion IsLabel (l ∷ more) → AllByRecursion IsLabelText (l ∷ more) → encoded_size ls + encoded_size (l ∷ more) ≤ 256
    → name_from_rest ls l Outside (chars (flat_map dotted more ++ last_dot is_fqdn)) ≡ Ok (record { is_fqdn = is_fqdn; labels = ls ++ l ∷ more })
read_dotted [] true ls l labels texts fit =
    at_dot ls l [] ∙ rw (fits ls l labels.0.not_long texts.0 (omega (arith, encoded_size_cons l [], fit))) (at_end (ls ++ l ∷ []) [] refl)
read_dotted [] false ls l labels texts fit =
    at_last ls l (ne_eqb (length l) 0 (λ z. let some = labels.0.not_empty in omega arith)) ∙ rw (fits ls l labels.0.not_long texts.0 (omega (arith, encoded_size_cons l [], fit))) refl
read_dotted (m ∷ more) is_fqdn ls l labels texts fit =
    let room : encoded_size ls + 1 + length l ≤ 255 = omega (arith, fit, encoded_size_cons l (m ∷ more), encoded_size_cons m more) in
    let rest : encoded_size (ls ++ l ∷ []) + encoded_size (m ∷ more) ≤ 256 = omega (arith, fit, encoded_size_cons l (m ∷ more), encoded_size_push ls l) in
    let end = flat_map dotted more ++ last_dot is_fqdn in
    ap (λ (all : List ℕ). name_from_rest ls l Outside (chars (dot ∷ all))) (append_assoc (label_text m) (flat_map dotted more) (last_dot is_fqdn))
    ∙ at_dot ls l (label_text m ++ end)
    ∙ ap (λ (r : Result (List (List ℕ)) Fault). r >>= (λ longer. name_from_rest longer [] Outside (chars (label_text m ++ end))))
    (fits ls l labels.0.not_long texts.0 room)
    ∙ Reads_rest (Reads_label m texts.1.0) (ls ++ l ∷ []) [] end
    ∙ read_dotted more is_fqdn (ls ++ l ∷ []) m labels.1 texts.1 rest
    ∙ ap (λ (all : List (List ℕ)). Ok (record { is_fqdn = is_fqdn; labels = all })) (append_assoc ls (l ∷ []) (m ∷ more))

-- a label's text begins with a character of the label, so it is neither empty nor a lone dot
label_plain : (l rest : List ℕ) → IsLabelText l → name_from_text (chars (label_text l ++ rest)) ≡ name_from_rest [] [] Outside (chars (label_text l ++ rest))
label_plain [] rest h = absurd cc
label_plain (b ∷ bs) rest h =
    let text = chars (label_text (b ∷ bs) ++ rest) in
    let after = flat_map (byte_text false) bs in
    let first : elements Outside text ≡ Char b ∷ elements Outside (after ++ chars rest) =
    ap (elements Outside) (Reads_chars (Reads_label (b ∷ bs) h) rest ∙ append_assoc (byte_text true b) after (chars rest))
    ∙ (IsRead_begin b (and_parts (may_begin b) _ h).0).read (after ++ chars rest) in
    plain_chars text
    (λ e. let none : elements Outside text ≡ [] = ap (elements Outside) e in cc)
    (λ e. let lone : elements Outside text ≡ Dot ∷ [] = ap (elements Outside) e in cc)

-- the text of a name gives the name
read_name : (is_fqdn : Bool) (ls : List (List ℕ)) → AreLabels ls → AllByRecursion IsLabelText ls
    → name_from_text (chars (name_text (record { is_fqdn = is_fqdn; labels = ls }))) ≡ Ok (record { is_fqdn = is_fqdn; labels = ls })
read_name true [] are texts = ap name_from_text chars_dot
read_name false [] are texts = ap name_from_text chars-nil
read_name is_fqdn (l ∷ more) are texts =
    let size : encoded_size [] + encoded_size (l ∷ more) ≤ 256 = let fit = are.fit in omega arith in
    let end = flat_map dotted more ++ last_dot is_fqdn in
    ap (λ (text : List ℕ). name_from_text (chars (text ++ last_dot is_fqdn))) (joined_cons l more)
    ∙ ap (λ (text : List ℕ). name_from_text (chars text)) (append_assoc (label_text l) (flat_map dotted more) (last_dot is_fqdn))
    ∙ label_plain l end texts.0 ∙ Reads_rest (Reads_label l texts.0) [] [] end
    ∙ read_dotted more is_fqdn [] l are.each texts size

pub read_back : (n : NameValue) → AreLabels n.labels → AllByRecursion IsLabelText n.labels → name_from_text (chars (name_text n)) ≡ Ok n
read_back n are texts = read_name n.is_fqdn n.labels are texts
