-- Octets of a line that stay as they are: nothing of them is a comment or a parenthesis, and none ends the line.
use Rattle.std.proofs.Common.{◌≡◌, ℕ, suc, ◌+◌, ◌<◌, ◌/◌, ◌%◌, ◌==◌, ◌&&◌, ◌||◌, true, false, List, [], ◌∷◌, ◌++◌, refl, sym, ap, ◌∙◌, arith, append_assoc, append-nil, inl, inr}
use Rattle.std.specs.Prelude.{nat_le, flat_map}
use Rattle.std.specs.List.{AllByRecursion}
use Rattle.std.proofs.lemmas.Bool.{and_parts, cases_Bool}
use Rattle.dnw_name_text.specs.NameTexts.{is_special, name_octet, label_octets, labels_text, full_name_text}
use Rattle.dnw_zone_data.proofs.Plain.{all_plain, is_plain}
use Rattle.dnw_zone_values.specs.Octets.{IsOctets}
use Rattle.dnw_zone_values.specs.Strings.{quote, backslash, octet_text, string_text}
use Rattle.dnw_zone_record.specs.declared.scan.Ending.TheVariants.{Line}
use Rattle.dnw_zone_record.specs.declared.scan.Place.{Place}
use Rattle.dnw_zone_record.specs.declared.scan.Place.TheVariants.{Words, Escaped, Quoted, QuotedEscaped}
use Rattle.dnw_zone_record.specs.declared.scan.Octet.TheVariants.{Kept}
use Rattle.dnw_zone_data.specs.Words.{is_plain_octet}
use Rattle.dnw_zone_record.specs.Lines.{added_octet, is_quoted, ends_line, line_from, line_of, of_quoted, on_octet}

-- A text stays as it is, and leads from one place to another, whatever is before it and after it.
abbrev pub Keeps : Place → List ℕ → Place → Type 0
Keeps here text there = (so rest : List ℕ) → line_from so here 0 (text ++ rest) ≡ line_from (so ++ text) there 0 rest

pub keeps_none : (place : Place) → Keeps place [] place
keeps_none place so rest = ap (λ (x : List ℕ). line_from x place 0 rest) (sym (append-nil so))

pub keeps_both : (a b : List ℕ) (p q r : Place) → Keeps p a q → Keeps q b r → Keeps p (a ++ b) r
keeps_both a b p q r h k so rest =
    ap (line_from so p 0) (append_assoc a b rest) ∙ h so (b ++ rest) ∙ k (so ++ a) rest
    ∙ ap (λ (x : List ℕ). line_from x r 0 rest) (append_assoc so a b)

pub keeps_octet : (p q : Place) (c : ℕ) → on_octet p 0 c ≡ Kept q → Keeps p (c ∷ []) q
keeps_octet p q c is so rest =
    ap (λ octet. added_octet octet c (λ o next. line_from (so ++ o ∷ []) next 0 rest)
    (λ next within. line_from (so ++ 32 ∷ []) next within rest) (λ ending. (so, ending))) is

pub keeps_then : (c : ℕ) (text : List ℕ) (p q r : Place) → on_octet p 0 c ≡ Kept q → Keeps q text r → Keeps p (c ∷ text) r
keeps_then c text p q r is h = keeps_both (c ∷ []) text p q r (keeps_octet p q c is) h

-- ---- words without quotes

plain_is : (c : ℕ) → is_plain c ≡ true → is_plain_octet c ≡ true
plain_is c h = grind arith

plain_octet : (c : ℕ) → is_plain c ≡ true → on_octet Words 0 c ≡ Kept Words
plain_octet c h = rw (plain_is c h) refl

pub keeps_plain : (w : List ℕ) → all_plain w ≡ true → Keeps Words w Words
keeps_plain [] h = keeps_none Words
keeps_plain (c ∷ w) h =
    let parts = and_parts (is_plain c) (all_plain w) h in
    keeps_then c w Words Words Words (plain_octet c parts.0) (keeps_plain w parts.1)

-- a word after a space
pub keeps_spaced : (w : List ℕ) → Keeps Words w Words → Keeps Words (32 ∷ w) Words
keeps_spaced w h = keeps_then 32 w Words Words Words refl h

-- ---- quoted strings

quoted_is : (c : ℕ) → is_quoted c ≡ true → of_quoted c ≡ Kept Quoted
quoted_is c h = grind arith

digit_quoted : (n : ℕ) → n < 10 → is_quoted (48 + n) ≡ true
digit_quoted n h = grind arith

printable_quoted : (o : ℕ) → (o == 34) ≡ false → (o == 92) ≡ false → (nat_le 32 o && nat_le o 126) ≡ true → is_quoted o ≡ true
printable_quoted o a b c = grind arith

quoted_octet : (o : ℕ) → o < 256 → Keeps Quoted (octet_text o) Quoted
quoted_octet o fits = elim (cases_Bool (o == quote || o == backslash)) [
  | inl special ↦ rw special (keeps_then 92 (o ∷ []) Quoted QuotedEscaped Quoted refl (keeps_octet QuotedEscaped Quoted o refl))
  | inr other ↦ elim (cases_Bool (nat_le 32 o && nat_le o 126)) [
    | inl printable ↦
        let is : is_quoted o ≡ true = grind arith in
        rw (other, printable) (keeps_octet Quoted Quoted o (quoted_is o is))
    | inr not ↦
        let b = digit_quoted (o / 10 % 10) (omega arith) in
        let c = digit_quoted (o % 10) (omega arith) in
        rw (other, not)
        (keeps_then 92 _ Quoted QuotedEscaped Quoted refl
        (keeps_then _ _ QuotedEscaped Quoted Quoted refl
        (keeps_then _ _ Quoted Quoted Quoted (quoted_is (48 + o / 10 % 10) b) (keeps_octet Quoted Quoted (48 + o % 10) (quoted_is (48 + o % 10) c)))))
  ]
]

quoted_octets : (own : List ℕ) → IsOctets own → Keeps Quoted (flat_map octet_text own) Quoted
quoted_octets [] h = keeps_none Quoted
quoted_octets (o ∷ own) h =
    keeps_both (octet_text o) (flat_map octet_text own) Quoted Quoted Quoted (quoted_octet o (h 0)) (quoted_octets own (λ i. h (suc i)))

pub keeps_string : (own : List ℕ) → IsOctets own → Keeps Words (string_text own) Words
keeps_string own h =
    keeps_then 34 (flat_map octet_text own ++ 34 ∷ []) Words Quoted Words refl
    (keeps_both (flat_map octet_text own) (34 ∷ []) Quoted Quoted Words (quoted_octets own h) (keeps_octet Quoted Words 34 refl))

-- ---- names

special_goes_on : (o : ℕ) → is_special o ≡ true → ends_line o ≡ false
special_goes_on o h = grind arith

digit_goes_on : (n : ℕ) → n < 10 → ends_line (48 + n) ≡ false
digit_goes_on n h = grind arith

escaped_octet : (o : ℕ) → ends_line o ≡ false → on_octet Escaped 0 o ≡ Kept Words
escaped_octet o h = rw h refl

printable_plain : (o : ℕ) → is_special o ≡ false → (nat_le 33 o && nat_le o 126) ≡ true → is_plain o ≡ true
printable_plain o h k = grind arith

digit_plain_octet : (n : ℕ) → n < 10 → on_octet Words 0 (48 + n) ≡ Kept Words
digit_plain_octet n h = let is : is_plain (48 + n) ≡ true = grind arith in plain_octet (48 + n) is

octet_of_name : (o : ℕ) → o < 256 → Keeps Words (name_octet o) Words
octet_of_name o fits = elim (cases_Bool (is_special o)) [
  | inl special ↦
      rw special (keeps_then 92 (o ∷ []) Words Escaped Words refl (keeps_octet Escaped Words o (escaped_octet o (special_goes_on o special))))
  | inr other ↦ elim (cases_Bool (nat_le 33 o && nat_le o 126)) [
    | inl printable ↦ rw (other, printable) (keeps_octet Words Words o (plain_octet o (printable_plain o other printable)))
    | inr not ↦
        rw (other, not)
        (keeps_then 92 _ Words Escaped Words refl
        (keeps_then _ _ Escaped Words Words (escaped_octet (48 + o / 100) (digit_goes_on (o / 100) (omega (arith, fits))))
        (keeps_then _ _ Words Words Words (digit_plain_octet (o / 10 % 10) (omega arith)) (keeps_octet Words Words _ (digit_plain_octet (o % 10) (omega arith))))))
  ]
]

pub keeps_label : (label : List ℕ) → IsOctets label → Keeps Words (label_octets label) Words
keeps_label [] h = keeps_none Words
keeps_label (o ∷ label) h =
    keeps_both (name_octet o) (label_octets label) Words Words Words (octet_of_name o (h 0)) (keeps_label label (λ i. h (suc i)))

keeps_labels : (labels : List (List ℕ)) → AllByRecursion IsOctets labels → Keeps Words (labels_text labels) Words
keeps_labels [] h = keeps_none Words
keeps_labels (label ∷ labels) h =
    keeps_both (label_octets label ++ 46 ∷ []) (labels_text labels) Words Words Words
    (keeps_both (label_octets label) (46 ∷ []) Words Words Words (keeps_label label h.0) (keeps_octet Words Words 46 refl))
    (keeps_labels labels h.1)

pub keeps_name : (labels : List (List ℕ)) → AllByRecursion IsOctets labels → Keeps Words (full_name_text labels) Words
keeps_name [] h = keeps_octet Words Words 46 refl
keeps_name (label ∷ labels) h = keeps_labels (label ∷ labels) h

-- ---- lines

-- a text that stays as it is, and a line feed, are a line
pub is_line : (text rest : List ℕ) → Keeps Words text Words → line_of (text ++ 10 ∷ rest) ≡ (text, Line)
is_line text rest h = h [] (10 ∷ rest)
