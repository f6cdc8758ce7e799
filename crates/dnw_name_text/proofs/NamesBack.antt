-- What is printed of a name is read as that name.
use Rattle.std.proofs.Common.{◌≡◌, ℕ, ◌+◌, ◌-◌, ◌*◌, ◌/◌, ◌%◌, ◌<◌, ◌≤◌, Bool, true, false, ◌&&◌, ◌==◌, List, [], ◌∷◌, ◌++◌, length, map, refl, sym, ap, ◌∙◌, arith, append_assoc, append-nil, length-append, inl, inr}
use Rattle.std.specs.Prelude.{nat_le, nat_lt, None, Ok}
use Rattle.std.specs.Char.{is_ascii_digit}
use Rattle.std.specs.List.{AllByRecursion, flat_map, join_with_byte}
use Rattle.std.proofs.lemmas.Bool.{cases_Bool, ne_eqb, lt-ltb}
use Rattle.std.proofs.lemmas.List.Sums.{sum_by-append}
use Rattle.dnw_base.specs.Labels.{IsLabel}
use Rattle.dnw_base.specs.Names.{AreLabels, encoded_size}
use Rattle.dnw_name_form.specs.LabelOrder.{AreOctets}
use Rattle.dnw_name_form.specs.LabelText.{dot}
use Rattle.dnw_name_text.specs.NameTexts.{is_special, name_octet, label_octets, labels_text, full_name_text, relative_name_text, text_of_name}
use Rattle.dnw_name_text.specs.declared.reading.Escape.TheVariants.{Outside}
use Rattle.dnw_name_text.specs.NameReading.{one_label_more, labels_from, labels_of_text, name_of_text}
use Rattle.dnw_name_text.proofs.Joining.{dotted, joined_cons}
use Rattle.dnw_name_text.specs.NameTextLaws.{NamesComeBack, FullNamesComeBack}

special_no_digit : (o : ℕ) → is_special o ≡ true → is_ascii_digit o ≡ false
special_no_digit o h = grind arith

no_dot : (o : ℕ) → is_special o ≡ false → (o == 46) ≡ false
no_dot o h = grind arith

no_backslash : (o : ℕ) → is_special o ≡ false → (o == 92) ≡ false
no_backslash o h = grind arith

digit : (d : ℕ) → d < 10 → is_ascii_digit (48 + d) ≡ true
digit d fits = grind arith

read_octet : (at : ℕ) (done : List (List ℕ)) (label xs : List ℕ) (o : ℕ) → o < 256 → length label < 63
    → labels_from at done label Outside (name_octet o ++ xs) ≡ labels_from (at + length (name_octet o)) done (label ++ o ∷ []) Outside xs
read_octet at done label xs o fits few = elim (cases_Bool (is_special o)) [
  | inl special ↦
      let next : at + 1 + 1 ≡ at + 2 = omega arith in
      rw (special, special_no_digit o special, lt-ltb (length label) 63 few, next) refl
  | inr other ↦ elim (cases_Bool (nat_le 33 o && nat_le o 126)) [
    | inl printable ↦ rw (other, printable, no_dot o other, no_backslash o other, lt-ltb (length label) 63 few) refl
    | inr not ↦
        let whole : 100 * (48 + o / 100 - 48) + 10 * (48 + o / 10 % 10 - 48) + (48 + o % 10 - 48) ≡ o = omega arith in
        let next : at + 1 + 1 + 1 + 1 ≡ at + 4 = omega arith in
        rw (other, not, digit (o / 100) (omega arith), digit (o / 10 % 10) (omega arith), digit (o % 10) (omega arith), whole, lt-ltb o 256 fits, lt-ltb (length label) 63 few, next) refl
  ]
]

read_label : (at : ℕ) (done : List (List ℕ)) (label more xs : List ℕ) → AreOctets more → length label + length more ≤ 63
    → labels_from at done label Outside (label_octets more ++ xs) ≡ labels_from (at + length (label_octets more)) done (label ++ more) Outside xs
read_label at done label [] xs h few =
    let same : at + 0 ≡ at = omega arith in
    rw same (ap (λ (l : List ℕ). labels_from at done l Outside xs) (sym (append-nil label)))
read_label at done label (o ∷ more) xs h few =
    let size : at + length (name_octet o) + length (label_octets more) ≡ at + length (name_octet o ++ label_octets more) = omega (arith, length-append (name_octet o) (label_octets more)) in
    ap (labels_from at done label Outside) (append_assoc (name_octet o) (label_octets more) xs)
    ∙ read_octet at done label (label_octets more ++ xs) o h.0 (omega (arith, few))
    ∙ read_label (at + length (name_octet o)) done (label ++ o ∷ []) more xs h.1 (omega (arith, few, length-append label (o ∷ [])))
    ∙ ap (λ (l : List ℕ). labels_from (at + length (name_octet o) + length (label_octets more)) done l Outside xs) (append_assoc label (o ∷ []) more)
    ∙ ap (λ (n : ℕ). labels_from n done (label ++ o ∷ more) Outside xs) size

not_less : (a b : ℕ) → b ≤ a → nat_lt a b ≡ false
not_less a b h = grind arith

one_more : (at : ℕ) (done labels : List (List ℕ)) (label : List ℕ) → 1 ≤ length label → encoded_size (done ++ label ∷ labels) ≤ 255 → one_label_more at done label ≡ Ok (done ++ label ∷ [])
one_more at done labels label some fit =
    let few : encoded_size (done ++ label ∷ []) ≤ 255 =
    omega (arith, fit, sum_by-append (λ (l : List ℕ). length l + 1) (done ++ label ∷ []) labels, ap (λ (ls : List (List ℕ)). encoded_size ls) (append_assoc done (label ∷ []) labels)) in
    rw (ne_eqb (length label) 0 (omega (arith, some)), not_less 255 (encoded_size (done ++ label ∷ [])) few) refl

-- ---- with a dot after each label

read_labels : (at : ℕ) (done labels : List (List ℕ)) → AllByRecursion IsLabel labels → AllByRecursion AreOctets labels → encoded_size (done ++ labels) ≤ 255
    → labels_from at done [] Outside (labels_text labels) ≡ Ok (done ++ labels, true)
read_labels at done [] are h fit = ap (λ (ls : List (List ℕ)). Ok (ls, true)) (sym (append-nil done))
read_labels at done (label ∷ labels) are h fit =
    let longer = append_assoc done (label ∷ []) labels in
    let end = at + length (label_octets label) in
    ap (labels_from at done [] Outside) (append_assoc (label_octets label) (46 ∷ []) (labels_text labels))
    ∙ read_label at done [] label (46 ∷ labels_text labels) h.0 (omega (arith, are.0.not_long))
    ∙ rw (one_more end done labels label are.0.not_empty fit)
    (read_labels (end + 1) (done ++ label ∷ []) labels are.1 h.1 (omega (arith, fit, ap (λ (ls : List (List ℕ)). encoded_size ls) longer))
    ∙ ap (λ (ls : List (List ℕ)). Ok (ls, true)) longer)

-- ---- with a dot between labels

last_one : (end : ℕ) (done : List (List ℕ)) (label : List ℕ) → 1 ≤ length label → encoded_size (done ++ label ∷ []) ≤ 255
    → labels_from end done label Outside [] ≡ Ok (done ++ label ∷ [], false)
last_one end done [] some fit = absurd (omega (arith, some))
last_one end done (o ∷ label) some fit = rw (one_more end done [] (o ∷ label) some fit) refl

read_relative : (at : ℕ) (done : List (List ℕ)) (label : List ℕ) (labels : List (List ℕ)) → AllByRecursion IsLabel (label ∷ labels) → AllByRecursion AreOctets (label ∷ labels)
    → encoded_size (done ++ label ∷ labels) ≤ 255 → labels_from at done [] Outside (join_with_byte dot (map label_octets (label ∷ labels))) ≡ Ok (done ++ label ∷ labels, false)
read_relative at done label [] are h fit =
    ap (labels_from at done [] Outside) (sym (append-nil (label_octets label)))
    ∙ read_label at done [] label [] h.0 (omega (arith, are.0.not_long))
    ∙ last_one (at + length (label_octets label)) done label are.0.not_empty fit
read_relative at done label (next ∷ labels) are h fit =
    let longer = append_assoc done (label ∷ []) (next ∷ labels) in
    let end = at + length (label_octets label) in
    read_label at done [] label (46 ∷ join_with_byte dot (map label_octets (next ∷ labels))) h.0 (omega (arith, are.0.not_long))
    ∙ rw (one_more end done (next ∷ labels) label are.0.not_empty fit)
    (read_relative (end + 1) (done ++ label ∷ []) next labels are.1 h.1 (omega (arith, fit, ap (λ (ls : List (List ℕ)). encoded_size ls) longer))
    ∙ ap (λ (ls : List (List ℕ)). Ok (ls, false)) longer)

-- ---- a whole text

-- a text of one character that is neither a dot nor `@`, or of more, is read label by label
by_labels : (text : List ℕ) → 2 ≤ length text → labels_of_text text ≡ labels_from 0 [] [] Outside text
by_labels [] many = absurd (omega (arith, many))
by_labels (c ∷ []) many = absurd (omega (arith, many))
by_labels (c ∷ d ∷ cs) many = refl

octet_some : (o : ℕ) → 1 ≤ length (name_octet o)
octet_some o = elim (cases_Bool (is_special o)) [
  | inl special ↦ rw special (omega arith)
  | inr other ↦ elim (cases_Bool (nat_le 33 o && nat_le o 126)) [ inl printable ↦ rw (other, printable) (omega arith) | inr not ↦ rw (other, not) (omega arith) ]
]

label_some : (label : List ℕ) → 1 ≤ length label → 1 ≤ length (label_octets label)
label_some [] some = absurd (omega (arith, some))
label_some (o ∷ label) some = omega (arith, octet_some o, length-append (name_octet o) (label_octets label))

full : (labels : List (List ℕ)) → AreLabels labels → AllByRecursion AreOctets labels → labels_of_text (full_name_text labels) ≡ Ok (labels, true)
full [] are h = refl
full (label ∷ labels) are h =
    let many = label_some label are.each.0.not_empty in
    let size = length-append (label_octets label ++ 46 ∷ []) (labels_text labels) in
    by_labels (labels_text (label ∷ labels)) (omega (arith, many, size, length-append (label_octets label) (46 ∷ [])))
    ∙ read_labels 0 [] (label ∷ labels) are.each h are.fit

pub full_names : FullNamesComeBack
full_names origin labels are h = rw (full labels are h) refl

-- the text of a label alone is no dot and no `@`
no_sign : (o : ℕ) → is_special o ≡ false → (o == 64) ≡ false
no_sign o h = grind arith

lone : (o : ℕ) (xs : List ℕ) → is_special o ≡ false → labels_of_text (o ∷ xs) ≡ labels_from 0 [] [] Outside (o ∷ xs)
lone o [] other = rw (no_dot o other, no_sign o other) refl
lone o (x ∷ xs) other = refl

printed_octet : (o : ℕ) (xs : List ℕ) → labels_of_text (name_octet o ++ xs) ≡ labels_from 0 [] [] Outside (name_octet o ++ xs)
printed_octet o xs = elim (cases_Bool (is_special o)) [
  | inl special ↦ rw special refl
  | inr other ↦ elim (cases_Bool (nat_le 33 o && nat_le o 126)) [
    | inl printable ↦ rw (other, printable) (lone o xs other)
    | inr not ↦ rw (other, not) refl
  ]
]

printed_label : (label xs : List ℕ) → 1 ≤ length label → labels_of_text (label_octets label ++ xs) ≡ labels_from 0 [] [] Outside (label_octets label ++ xs)
printed_label [] xs some = absurd (omega (arith, some))
printed_label (o ∷ label) xs some = rw (append_assoc (name_octet o) (label_octets label) xs) (printed_octet o (label_octets label ++ xs))

printed_labels : (label : List ℕ) (labels : List (List ℕ)) → 1 ≤ length label
    → labels_of_text (join_with_byte dot (map label_octets (label ∷ labels))) ≡ labels_from 0 [] [] Outside (join_with_byte dot (map label_octets (label ∷ labels)))
printed_labels label labels some = rw (joined_cons label labels) (printed_label label (flat_map dotted labels) some)

relative : (labels : List (List ℕ)) → AreLabels labels → AllByRecursion AreOctets labels → labels_of_text (relative_name_text labels) ≡ Ok (labels, false)
relative [] are h = refl
relative (label ∷ labels) are h = printed_labels label labels are.each.0.not_empty ∙ read_relative 0 [] label labels are.each h are.fit

come_back : (is_fqdn : Bool) (labels : List (List ℕ)) → AreLabels labels → AllByRecursion AreOctets labels
    → name_of_text None (text_of_name (record { is_fqdn = is_fqdn; labels = labels })) ≡ Ok (record { is_fqdn = is_fqdn; labels = labels })
come_back true labels are h = rw (full labels are h) refl
come_back false labels are h = rw (relative labels are h) refl

pub names : NamesComeBack
names name are h = come_back name.is_fqdn name.labels are h
