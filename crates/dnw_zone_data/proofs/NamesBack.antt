-- A printed name is one word, and read as that name.
use Rattle.std.proofs.Common.{◌≡◌, ℕ, suc, ◌+◌, ◌/◌, ◌%◌, ◌<◌, ◌≤◌, true, false, ◌&&◌, List, [], ◌∷◌, ◌++◌, length, refl, sym, ap, ◌∙◌, arith, append_assoc, append-nil, length-append, inl, inr}
use Rattle.std.specs.Prelude.{nat_le, Option, Some, None}
use Rattle.std.specs.List.{AllByRecursion}
use Rattle.std.proofs.lemmas.Bool.{cases_Bool}
use Rattle.std.proofs.lemmas.List.{take_at, drop_at}
use Rattle.dnw_base.specs.Labels.{IsLabel}
use Rattle.dnw_base.specs.Names.{NameValue, AreLabels}
use Rattle.dnw_data.specs.declared.kind.Kind.TheVariants as kinds
use Rattle.dnw_data.specs.declared.kind.NameForm.{NameForm}
use Rattle.dnw_data.specs.Values.{name}
use Rattle.dnw_zone_values.specs.Octets.{IsOctets}
use Rattle.dnw_name_form.specs.LabelOrder.{AreOctets}
use Rattle.dnw_name_text.specs.NameReading.{origin_labels}
use Rattle.dnw_name_text.proofs.NamesBack.{full_names}
use Rattle.dnw_name_text.specs.NameTexts.{is_special, name_octet, label_octets, labels_text, full_name_text}
use Rattle.dnw_zone_data.specs.Words.{is_end, begins_with_quote, plain_len, word_len, after_spaces}
use Rattle.dnw_zone_data.specs.NameReading.{named_at}
use Rattle.dnw_zone_data.specs.DataTextLaws.{FieldComesBack}
use Rattle.dnw_zone_data.proofs.Plain.{is_plain, plain_goes_on, plain_no_space, plain_no_quote, plain_no_backslash, digit_plain, end_plain, unquoted_len}
use Rattle.dnw_zone_data.proofs.FieldsBack.{by_word}

-- ---- one word

plain_of : (o : ℕ) → is_special o ≡ false → (nat_le 33 o && nat_le o 126) ≡ true → is_plain o ≡ true
plain_of o h k = grind arith

octet_len : (o : ℕ) (xs : List ℕ) → o < 256 → plain_len false (name_octet o ++ xs) ≡ length (name_octet o) + plain_len false xs
octet_len o xs fits = elim (cases_Bool (is_special o)) [
  | inl special ↦ rw special (omega arith)
  | inr other ↦ elim (cases_Bool (nat_le 33 o && nat_le o 126)) [
    | inl printable ↦
        let plain = plain_of o other printable in
        rw (other, printable, plain_goes_on o plain, plain_no_backslash o plain) (omega arith)
    | inr not ↦
        let y = digit_plain (o / 10 % 10) (omega arith) in
        let z = digit_plain (o % 10) (omega arith) in
        rw (other, not, plain_goes_on _ y, plain_no_backslash _ y, plain_goes_on _ z, plain_no_backslash _ z) (omega arith)
  ]
]

pub label_len : (label xs : List ℕ) → IsOctets label → plain_len false (label_octets label ++ xs) ≡ length (label_octets label) + plain_len false xs
label_len [] xs h = omega arith
label_len (o ∷ label) xs h =
    rw (append_assoc (name_octet o) (label_octets label) xs)
    (octet_len o (label_octets label ++ xs) (h 0) ∙ omega (arith, label_len label xs (λ i. h (suc i)), length-append (name_octet o) (label_octets label)))

-- a label with its dot, and what is after it
seam : (label : List ℕ) (labels : List (List ℕ)) (xs : List ℕ) → labels_text (label ∷ labels) ++ xs ≡ label_octets label ++ 46 ∷ (labels_text labels ++ xs)
seam label labels xs =
    append_assoc (label_octets label ++ 46 ∷ []) (labels_text labels) xs ∙ append_assoc (label_octets label) (46 ∷ []) (labels_text labels ++ xs)

labels_len : (labels : List (List ℕ)) (rest : List ℕ) → AllByRecursion IsOctets labels → is_end rest ≡ true
    → plain_len false (labels_text labels ++ rest) ≡ length (labels_text labels)
labels_len [] rest h end = end_plain rest end
labels_len (label ∷ labels) rest h end =
    let more = labels_len labels rest h.1 end in
    ap (plain_len false) (seam label labels rest) ∙ label_len label (46 ∷ (labels_text labels ++ rest)) h.0
    ∙ omega (arith, more, length-append (label_octets label ++ 46 ∷ []) (labels_text labels), length-append (label_octets label) (46 ∷ []))

plain_name_len : (labels : List (List ℕ)) (rest : List ℕ) → AllByRecursion IsOctets labels → is_end rest ≡ true
    → plain_len false (full_name_text labels ++ rest) ≡ length (full_name_text labels)
plain_name_len [] rest h end = rw (end_plain rest end) refl
plain_name_len (label ∷ labels) rest h end = labels_len (label ∷ labels) rest h end

octet_unquoted : (o : ℕ) (xs : List ℕ) → begins_with_quote (name_octet o ++ xs) ≡ false
octet_unquoted o xs = elim (cases_Bool (is_special o)) [
  | inl special ↦ rw special refl
  | inr other ↦ elim (cases_Bool (nat_le 33 o && nat_le o 126)) [
    | inl printable ↦ let plain = plain_of o other printable in rw (other, printable) (plain_no_quote o plain)
    | inr not ↦ rw (other, not) refl
  ]
]

label_unquoted : (label xs : List ℕ) → 1 ≤ length label → begins_with_quote (label_octets label ++ xs) ≡ false
label_unquoted [] xs some = absurd (omega (arith, some))
label_unquoted (o ∷ label) xs some = rw (append_assoc (name_octet o) (label_octets label) xs) (octet_unquoted o (label_octets label ++ xs))

pub name_unquoted : (labels : List (List ℕ)) (rest : List ℕ) → AllByRecursion IsLabel labels → begins_with_quote (full_name_text labels ++ rest) ≡ false
name_unquoted [] rest are = refl
name_unquoted (label ∷ labels) rest are = rw (seam label labels rest) (label_unquoted label (46 ∷ (labels_text labels ++ rest)) are.0.not_empty)

pub name_len : (labels : List (List ℕ)) (rest : List ℕ) → AllByRecursion IsLabel labels → AllByRecursion IsOctets labels → is_end rest ≡ true
    → word_len (full_name_text labels ++ rest) ≡ length (full_name_text labels)
name_len labels rest are h end = unquoted_len (full_name_text labels ++ rest) (name_unquoted labels rest are) ∙ plain_name_len labels rest h end

octet_starts : (o : ℕ) (xs : List ℕ) → after_spaces (name_octet o ++ xs) ≡ name_octet o ++ xs
octet_starts o xs = elim (cases_Bool (is_special o)) [
  | inl special ↦ rw special refl
  | inr other ↦ elim (cases_Bool (nat_le 33 o && nat_le o 126)) [
    | inl printable ↦ let plain = plain_of o other printable in rw (other, printable, plain_no_space o plain) refl
    | inr not ↦ rw (other, not) refl
  ]
]

label_starts : (label xs : List ℕ) → 1 ≤ length label → after_spaces (label_octets label ++ xs) ≡ label_octets label ++ xs
label_starts [] xs some = absurd (omega (arith, some))
label_starts (o ∷ label) xs some = rw (append_assoc (name_octet o) (label_octets label) xs) (octet_starts o (label_octets label ++ xs))

pub name_starts : (labels : List (List ℕ)) (rest : List ℕ) → AllByRecursion IsLabel labels → after_spaces (full_name_text labels ++ rest) ≡ full_name_text labels ++ rest
name_starts [] rest are = refl
name_starts (label ∷ labels) rest are = rw (seam label labels rest) (label_starts label (46 ∷ (labels_text labels ++ rest)) are.0.not_empty)

-- ---- and that name

octets : (label : List ℕ) → IsOctets label → AreOctets label
octets [] h = tt
octets (o ∷ label) h = (h 0, octets label (λ i. h (suc i)))

all_octets : (labels : List (List ℕ)) → AllByRecursion IsOctets labels → AllByRecursion AreOctets labels
all_octets [] h = tt
all_octets (label ∷ labels) h = (octets label h.0, all_octets labels h.1)

pub name_is : (origin : Option NameValue) (labels : List (List ℕ)) → AreLabels labels → AllByRecursion IsOctets labels → named_at origin (full_name_text labels) ≡ Some labels
name_is origin labels are h =
    let unquoted : begins_with_quote (full_name_text labels) ≡ false =
    ap begins_with_quote (sym (append-nil (full_name_text labels))) ∙ name_unquoted labels [] are.each in
    rw (unquoted, full_names (origin_labels origin) labels are (all_octets labels h)) refl

pub name_back : (form : NameForm) (labels : List (List ℕ)) → AreLabels labels → AllByRecursion IsOctets labels → FieldComesBack (kinds.Name form) (name labels)
name_back form labels are h origin way printed rest print end =
    let w = full_name_text labels in
    let len = name_len labels rest are.each h end.1 in
    by_word origin way (kinds.Name form) printed w rest (name labels) refl print (name_starts labels rest are.each) (take_at w rest _ (sym len)) (drop_at w rest _ (sym len))
    (labels, name_is origin labels are h, refl) (λ e. let no : None ≡ Some labels = ap (named_at None) (sym e) ∙ name_is None labels are h in cc)
