-- What is printed of fields and of data stays as it is in a line.
use Rattle.std.proofs.Common.{◌≡◌, ◌≤◌, ◌<◌, ◌⊎◌, ◌+◌, ◌-◌, ◌*◌, ◌^◌, ◌/◌, ◌%◌, ◌==◌, ◌&&◌, ℕ, zero, suc, true, List, [], ◌∷◌, ◌++◌, length, take, drop, slice_index, refl, sym, ap, ◌∙◌, subst, arith, append_assoc, append-nil, inl, inr, decimal}
use Rattle.std.specs.Prelude.{nat_le, nat_lt, flat_map, Some}
use Rattle.std.specs.Char.{is_ascii_digit, is_ascii_alphanumeric}
use Rattle.std.specs.Int.{w16, w64, from_be_bytes, to_be_bytes}
use Rattle.std.specs.List.{AllByRecursion, AllPass}
use Rattle.std.specs.Net.Addr.{segments_of}
use Rattle.std.specs.Net.Text.{ipv6_text}
use Rattle.std.proofs.lemmas.Bool.{and_parts, cases_Bool, cases_lt, leb-true, ltb-true}
use Rattle.std.proofs.lemmas.List.{length-take-le}
use Rattle.dnw_base.specs.Decoder.{Decoder}
use Rattle.dnw_base.specs.Names.{label_wire, wire}
use Rattle.dnw_base.specs.RecordTypes.{type_of_code}
use Rattle.dnw_data.proofs.Codes.{code_back}
use Rattle.dnw_data.proofs.Taking.{moves_on}
use Rattle.dnw_data.specs.Fields.{own_at, size_at, TakesField}
use Rattle.dnw_data.specs.TypeSets.{octets_codes}
use Rattle.dnw_data.specs.Values.{FieldValue, name, u16, u48, counted, octets, long_counted}
use Rattle.dnw_data.specs.declared.kind.Kind.{Kind}
use Rattle.dnw_data.specs.declared.kind.Kind.TheVariants as kinds
use Rattle.dnw_data.specs.declared.kind.ListKind.TheVariants as lists
use Rattle.dnw_data.specs.declared.kind.Shown.TheVariants.{Text, Tag, Hex, Base32Hex, Base64, MaybeBase64, Nsap, Ports, OldTypes}
use Rattle.dnw_data.specs.declared.kind.Shape.{Shape}
use Rattle.dnw_data.specs.declared.kind.Shape.TheVariants.{Location, Gateway, Relay, HostIdentity, AddressSuffix}
use Rattle.dnw_name_read.specs.ReadingLaws.{AreBytes}
use Rattle.dnw_name_text.specs.NameTexts.{full_name_text}
use Rattle.dnw_record.specs.RecordFields.{record_fields}
use Rattle.dnw_record.specs.Records.{RecordValue}
use Rattle.dnw_base.specs.Limits.{max_data}
use Rattle.dnw_zone_values.proofs.Identifiers.{hash}
use Rattle.dnw_zone_values.specs.Base32.{base32_text, is_base32}
use Rattle.dnw_zone_values.specs.Octets.{IsOctets, base64_text, hex_text, salt_text}
use Rattle.dnw_zone_values.specs.Prefixes.{ends_in_no_zero, prefix_text}
use Rattle.dnw_zone_values.specs.Pairs.{lower_digit, pairs_text}
use Rattle.dnw_zone_values.specs.Strings.{string_text}
use Rattle.dnw_zone_values.specs.Params.{ParamValue}
use Rattle.dnw_zone_values.specs.ParamTexts.{param_text, params_within}
use Rattle.dnw_zone_values.proofs.ParamTextsBack.{IsShaped, bare_open, base64_open, drop_fit, ipv6_bare, map_some, param_shaped, segments_fit, take_fit}
use Rattle.dnw_zone_data.specs.Bitmaps.{numbers_text, PrintsBits}
use Rattle.dnw_zone_data.specs.DataTexts.{IsDataText, IsPlainData, without_space}
use Rattle.dnw_zone_data.specs.Gateways.{PrintsEnd, PrintsShaped, identity_wire, relay_flag, three_words}
use Rattle.dnw_zone_data.specs.Generic.{generic_text, hex_part}
use Rattle.dnw_zone_data.specs.NameLists.{names_text}
use Rattle.dnw_zone_data.specs.Printing.{Prints, PrintsFields, base64_part, strings_text}
use Rattle.dnw_zone_data.specs.PrefixLists.{first_prefix_size, prefixes_within}
use Rattle.dnw_zone_data.specs.TypeLists.{code_text, shown_type, codes_text, codes_within, is_window}
use Rattle.dnw_zone_data.proofs.BitmapsBack.{IsBit, old_type_plain, old_types_are, port_plain, ports_are}
use Rattle.dnw_zone_data.proofs.CodesWithin.{Within, octets_within}
use Rattle.dnw_zone_data.proofs.DataBack.{data_fit}
use Rattle.dnw_zone_data.proofs.FieldValues.{counted_fit, labels_fit}
use Rattle.dnw_zone_data.proofs.GatewaysBack.{end_type, end_word, wire_labels_fit}
use Rattle.dnw_zone_data.proofs.FieldsBack.{dotted, first, shown_plain}
use Rattle.dnw_zone_data.proofs.LocatorsBack.{locator_plain, nsap_plain}
use Rattle.dnw_zone_data.proofs.PrefixListsBack.{prefix_plain, spaced_parts}
use Rattle.dnw_zone_data.proofs.LocationsBack.{AreMarks, location_spaced}
use Rattle.dnw_zone_values.specs.Locations.{words_text}
use Rattle.dnw_zone_data.proofs.Plain.{all_plain, decimal_plain, hex_plain, is_plain, plain_by_tests}
use Rattle.dnw_zone_data.proofs.WordsBack.{eight_fit, six_fit}
use Rattle.dnw_zone_record.specs.RecordLines.{spaced}
use Rattle.dnw_zone_record.specs.declared.scan.Place.TheVariants.{Words, Escaped}
use Rattle.dnw_zone_file.proofs.Kept.{Keeps, keeps_both, keeps_name, keeps_none, keeps_plain, keeps_spaced, keeps_string, keeps_then}

-- ---- plain words

digit_plain : (c : ℕ) → is_ascii_digit c ≡ true → is_plain c ≡ true
digit_plain c h = grind arith

digits_plain : (w : List ℕ) → AllPass is_ascii_digit w → all_plain w ≡ true
digits_plain [] h = refl
digits_plain (c ∷ w) h = rw (digit_plain c (h 0 0 (omega arith))) (digits_plain w (λ i d within. h (suc i) d (omega arith)))

letter_plain : (c : ℕ) → is_ascii_alphanumeric c ≡ true → is_plain c ≡ true
letter_plain c h = plain_by_tests c (grind arith) (grind arith) (grind arith) (grind arith) (grind arith) (grind arith) (grind arith)

letters_plain : (w : List ℕ) → AllPass is_ascii_alphanumeric w → all_plain w ≡ true
letters_plain [] h = refl
letters_plain (c ∷ w) h = rw (letter_plain c (h 0 0 (omega arith))) (letters_plain w (λ i d within. h (suc i) d (omega arith)))

base32_plain : (c : ℕ) → is_base32 c ≡ true → is_plain c ≡ true
base32_plain c h = plain_by_tests c (grind arith) (grind arith) (grind arith) (grind arith) (grind arith) (grind arith) (grind arith)

hash_plain : (w : List ℕ) → AllPass is_base32 w → all_plain w ≡ true
hash_plain [] h = refl
hash_plain (c ∷ w) h = rw (base32_plain c (h 0 0 (omega arith))) (hash_plain w (λ i d within. h (suc i) d (omega arith)))

salt_plain : (own : List ℕ) → IsOctets own → all_plain (salt_text own) ≡ true
salt_plain [] h = refl
salt_plain (o ∷ own) h = hex_plain (o ∷ own) h

lower_plain : (n : ℕ) → n < 16 → is_plain (lower_digit n) ≡ true
lower_plain n h = grind arith

pairs_plain : (own : List ℕ) → IsOctets own → all_plain (pairs_text own) ≡ true
pairs_plain [] h = refl
pairs_plain (o ∷ []) h = rw (lower_plain (o / 16) (omega (arith, h 0)), lower_plain (o % 16) (omega arith)) refl
pairs_plain (o ∷ p ∷ own) h = rw (lower_plain (o / 16) (omega (arith, h 0)), lower_plain (o % 16) (omega arith)) (pairs_plain (p ∷ own) (λ i. h (suc i)))

-- ---- lists

kept_by : (text w : List ℕ) → text ≡ 32 ∷ w → Keeps Words w Words → Keeps Words text Words
kept_by text w e h = subst (λ (t : List ℕ). Keeps Words t Words) (sym e) (keeps_spaced w h)

hex_kept : (own : List ℕ) → IsOctets own → Keeps Words (hex_part own) Words
hex_kept [] h = keeps_none Words
hex_kept (o ∷ own) h = keeps_spaced _ (keeps_plain _ (hex_plain (o ∷ own) h))

base64_kept : (own : List ℕ) → IsOctets own → Keeps Words (base64_part own) Words
base64_kept [] h = keeps_none Words
base64_kept (o ∷ own) h = keeps_spaced _ (keeps_plain _ (base64_open (o ∷ own) h))

octets_parts : (a b : List ℕ) → IsOctets (a ++ b) → IsOctets a × IsOctets b
octets_parts [] b h = ((λ i. omega arith), h)
octets_parts (x ∷ a) b h = let parts = octets_parts a b (λ i. h (suc i)) in (first x a (h 0) parts.0, parts.1)

strings_kept : (strings : List (List ℕ)) → IsOctets (flat_map label_wire strings) → Keeps Words (strings_text strings) Words
strings_kept [] h = keeps_none Words
strings_kept (s ∷ strings) h =
    let parts = octets_parts s (flat_map label_wire strings) (λ i. h (suc i)) in
    keeps_both (32 ∷ string_text s) (strings_text strings) Words Words Words (keeps_spaced (string_text s) (keeps_string s parts.0)) (strings_kept strings parts.1)

codes_kept : (least : ℕ) (codes : List ℕ) → Within least codes → Keeps Words (codes_text codes) Words
codes_kept least [] h = keeps_none Words
codes_kept least (code ∷ codes) h =
    let w = shown_type (type_of_code code) in
    keeps_both (32 ∷ w) (codes_text codes) Words Words Words
    (keeps_spaced w (keeps_plain w (shown_plain (type_of_code code) (omega (arith, code_back code, h.1)))))
    (codes_kept (code + 1) codes h.2)

codes_seam : (a b : List ℕ) → codes_text (a ++ b) ≡ codes_text a ++ codes_text b
codes_seam [] b = refl
codes_seam (code ∷ a) b = ap (λ (xs : List ℕ). code_text code ++ xs) (codes_seam a b) ∙ sym (append_assoc (code_text code) (codes_text a) (codes_text b))

window_codes : (number : ℕ) (own : List ℕ) → number < 256 → length own ≤ 32 → Within (256 * number) (octets_codes (256 * number) own)
window_codes number own low few =
    subst (Within (256 * number)) (append-nil (octets_codes (256 * number) own)) (octets_within (256 * number) own [] (omega (arith, low, few)) tt)

types_kept : (m : ℕ) (own codes : List ℕ) → IsOctets own → codes_within m own ≡ Some codes → Keeps Words (codes_text codes) Words
types_kept m [] codes h print = let none : [] ≡ codes = cc in subst (λ (cs : List ℕ). Keeps Words (codes_text cs) Words) none (keeps_none Words)
types_kept zero (number ∷ own) codes h print = absurd cc
types_kept (suc m) (number ∷ []) codes h print = absurd cc
types_kept (suc m) (number ∷ len ∷ bytes) codes h print = elim (cases_Bool (nat_le len (length bytes) && is_window (take len bytes))) [
  | inr other ↦ let wrong = rw other at print in absurd cc
  | inl is ↦
      let own = take len bytes in
      let tests = and_parts (nat_le len (length bytes)) (is_window own) is in
      let few : length own ≤ 32 = leb-true (length own) 32 (and_parts (nat_le (length own) 32) _ tests.1).0 in
      let (others, rest, e) = map_some (λ xs. octets_codes (256 * number) own ++ xs) (codes_within m (drop len bytes)) codes (rw is at print) in
      let here = codes_kept (256 * number) (octets_codes (256 * number) own) (window_codes number own (h 0) few) in
      let more = types_kept m (drop len bytes) others (drop_fit len bytes (λ i. h (suc (suc i)))) rest in
      let both = keeps_both (codes_text (octets_codes (256 * number) own)) (codes_text others) Words Words Words here more in
      subst (λ (t : List ℕ). Keeps Words t Words) (sym (ap codes_text e ∙ codes_seam (octets_codes (256 * number) own) others)) both
]

shaped_kept : (w : List ℕ) → IsShaped w → Keeps Words w Words
shaped_kept w (front, back, e, plain, inl none) =
    let whole : w ≡ front = e ∙ ap (λ (xs : List ℕ). front ++ xs) none ∙ append-nil front in
    subst (λ (t : List ℕ). Keeps Words t Words) (sym whole) (keeps_plain front plain)
shaped_kept w (front, back, e, plain, inr (own, key, fit, is, begins, are)) =
    let whole : w ≡ front ++ string_text own = e ∙ ap (λ (xs : List ℕ). front ++ xs) is in
    subst (λ (t : List ℕ). Keeps Words t Words) (sym whole) (keeps_both front (string_text own) Words Words Words (keeps_plain front plain) (keeps_string own fit))

params_kept : (m : ℕ) (own text : List ℕ) → IsOctets own → params_within m own ≡ Some text → Keeps Words text Words
params_kept m [] text h print = let none : [] ≡ text = cc in subst (λ (t : List ℕ). Keeps Words t Words) none (keeps_none Words)
params_kept zero (a ∷ own) text h print = absurd cc
params_kept (suc m) (a ∷ []) text h print = absurd cc
params_kept (suc m) (a ∷ b ∷ []) text h print = absurd cc
params_kept (suc m) (a ∷ b ∷ c ∷ []) text h print = absurd cc
params_kept (suc m) (a ∷ b ∷ c ∷ d ∷ left) text h print =
    let key = from_be_bytes w16 (a ∷ b ∷ []) in
    let len = from_be_bytes w16 (c ∷ d ∷ []) in
    let own = take len left in
    elim (cases_Bool (nat_le len (length left))) [
      | inr other ↦ let wrong = rw other at print in absurd cc
      | inl le ↦
          let (others, rest, e) = map_some (λ xs. 32 ∷ param_text key own ++ xs) (params_within m (drop len left)) text (rw le at print) in
          let fit : IsOctets left = λ i. h (suc (suc (suc (suc i)))) in
          let size : length own ≡ len = length-take-le len left (leb-true len (length left) le) in
          let p : ParamValue = record { key = key; octets = own } in
          let shape = param_shaped p (omega (arith, h 0, h 1), take_fit len left fit, omega (arith, size, h 2, h 3)) in
          let both = keeps_both (32 ∷ param_text key own) others Words Words Words (keeps_spaced (param_text key own) (shaped_kept (param_text key own) shape))
          (params_kept m (drop len left) others (drop_fit len left fit) rest) in
          subst (λ (t : List ℕ). Keeps Words t Words) (sym e) both
    ]

-- ---- prefixes

prefixes_kept : (n : ℕ) (own text : List ℕ) → IsOctets own → prefixes_within n own ≡ Some text → Keeps Words text Words
prefixes_kept n [] text h print = let none : [] ≡ text = cc in subst (λ (t : List ℕ). Keeps Words t Words) none (keeps_none Words)
prefixes_kept zero (o ∷ own) text h print = absurd cc
prefixes_kept (suc n) (o ∷ own) text h print =
    let all = o ∷ own in
    let size = first_prefix_size all in
    elim (cases_Bool (nat_le size (length all))) [
      | inr other ↦ let wrong = rw other at print in absurd cc
      | inl fits ↦
          let (x, y, first, others, e) = spaced_parts (prefix_text (take size all)) (prefixes_within n (drop size all)) text (rw fits at print) in
          let (plain, some) = prefix_plain (take size all) x (take_fit size all h) first in
          let both = keeps_both (32 ∷ x) y Words Words Words (keeps_spaced x (keeps_plain x plain)) (prefixes_kept n (drop size all) y (drop_fit size all h) others) in
          subst (λ (t : List ℕ). Keeps Words t Words) e both
    ]

names_kept : (listed : List (List (List ℕ))) → IsOctets (flat_map wire listed) → Keeps Words (names_text listed) Words
names_kept [] h = keeps_none Words
names_kept (labels ∷ listed) h =
    let parts = octets_parts (wire labels) (flat_map wire listed) h in
    keeps_both (32 ∷ full_name_text labels) (names_text listed) Words Words Words (keeps_spaced (full_name_text labels) (keeps_name labels (wire_labels_fit labels parts.0)))
    (names_kept listed parts.1)

-- ---- shapes

three_kept : (a b c : List ℕ) → Keeps Words a Words → Keeps Words b Words → Keeps Words c Words → Keeps Words (three_words a b c) Words
three_kept a b c first second third =
    keeps_both (32 ∷ a) ((32 ∷ b) ++ (32 ∷ c)) Words Words Words (keeps_spaced a first)
    (keeps_both (32 ∷ b) (32 ∷ c) Words Words Words (keeps_spaced b second) (keeps_spaced c third))

octet_kept : (n : ℕ) → n < 256 → Keeps Words (decimal n) Words
octet_kept n h = keeps_plain (decimal n) (decimal_plain n (omega (arith, h)))

end_kept : (type : ℕ) (own text : List ℕ) → IsOctets own → PrintsEnd type own text → Keeps Words text Words
end_kept type own text h print = elim (end_word type own text h print) [
  | inl plain ↦ keeps_plain text plain
  | inr is ↦ subst (λ (t : List ℕ). Keeps Words t Words) (sym is.2) (keeps_name is.0 is.1)
]

marks_kept : (words : List (List ℕ)) → AreMarks words → Keeps Words (words_text words) Words
marks_kept [] h = keeps_none Words
marks_kept (w ∷ words) (some, plain, more) =
    keeps_both (32 ∷ w) (words_text words) Words Words Words (keeps_spaced w (keeps_plain w plain)) (marks_kept words more)

shape_kept : (shape : Shape) (own text : List ℕ) → IsOctets own → PrintsShaped shape own text → Keeps Words text Words
shape_kept Location own text h print =
    let (words, marks, e) = location_spaced own text h print in subst (λ (t : List ℕ). Keeps Words t Words) (sym e) (marks_kept words marks)
shape_kept Gateway own text h (type, algorithm, gateway, shown, e, print, p) =
    let fit : IsOctets (type ∷ algorithm ∷ gateway) = subst IsOctets e h in
    subst (λ (t : List ℕ). Keeps Words t Words) (sym p)
    (three_kept (decimal type) (decimal algorithm) shown (octet_kept type (fit 0)) (octet_kept algorithm (fit 1)) (end_kept type gateway shown (λ i. fit (suc (suc i))) print))
shape_kept Relay own text h (flag, type, relay, shown, bit, e, print, p) =
    let fit : IsOctets ((relay_flag * flag + type) ∷ relay) = subst IsOctets e h in
    subst (λ (t : List ℕ). Keeps Words t Words) (sym p)
    (three_kept (decimal flag) (decimal type) shown (octet_kept flag (omega (arith, bit))) (octet_kept type (omega (arith, end_type type relay shown print)))
    (end_kept type relay shown (λ i. fit (suc i)) print))
shape_kept HostIdentity own text h (algorithm, tag, key, are, e, p) =
    let fit : IsOctets (identity_wire algorithm tag key) = subst IsOctets e h in
    let parts = octets_parts tag key (λ i. fit (suc (suc (suc (suc i))))) in
    subst (λ (t : List ℕ). Keeps Words t Words) (sym p)
    (three_kept (decimal algorithm) (hex_text tag) (base64_text key) (octet_kept algorithm (fit 1)) (keeps_plain (hex_text tag) (hex_plain tag parts.0))
    (keeps_plain (base64_text key) (base64_open key parts.1)))
shape_kept AddressSuffix own text h print = absurd print

-- ---- fields

own_fit : (kind : Kind) (d : Decoder) → AreBytes d.bytes → IsOctets (own_at kind d)
own_fit kind d h = take_fit (d.index + size_at kind d - d.index) (drop d.index d.bytes) (drop_fit d.index d.bytes h)

by_value : (kind : Kind) (value own : FieldValue) (text : List ℕ) → value ≡ own → Prints kind value text → (Prints kind own text → Keeps Words text Words)
    → Keeps Words text Words
by_value kind value own text e print h = h (subst (λ (v : FieldValue). Prints kind v text) e print)

by_none : (kind : Kind) (value own : FieldValue) (text : List ℕ) → value ≡ own → Prints kind value text → (Prints kind own text → ⊥) → Keeps Words text Words
by_none kind value own text e print h = absurd (h (subst (λ (v : FieldValue). Prints kind v text) e print))

number_kept : (n : ℕ) (text : List ℕ) → n < 2 ^ 64 → text ≡ 32 ∷ decimal n → Keeps Words text Words
number_kept n text few e = kept_by text (decimal n) e (keeps_plain (decimal n) (decimal_plain n few))

port_numbers_kept : (ns : List ℕ) → AllByRecursion (IsBit Ports) ns → Keeps Words (numbers_text Ports ns) Words
port_numbers_kept [] h = keeps_none Words
port_numbers_kept (n ∷ ns) h =
    keeps_both (32 ∷ decimal n) (numbers_text Ports ns) Words Words Words (keeps_spaced (decimal n) (keeps_plain (decimal n) (port_plain n h.0).0)) (port_numbers_kept ns h.1)

ports_kept : (own text : List ℕ) → PrintsBits Ports own text → Keeps Words text Words
ports_kept own text (is, e) =
    let few = leb-true (length own) 8192 (and_parts (nat_le (length own) 8192) (ends_in_no_zero own) is).0 in
    subst (λ (t : List ℕ). Keeps Words t Words) (sym e) (port_numbers_kept (octets_codes 0 own) (ports_are own few))

type_numbers_kept : (ns : List ℕ) → AllByRecursion (IsBit OldTypes) ns → Keeps Words (numbers_text OldTypes ns) Words
type_numbers_kept [] h = keeps_none Words
type_numbers_kept (n ∷ ns) h =
    let w = shown_type (type_of_code n) in
    keeps_both (32 ∷ w) (numbers_text OldTypes ns) Words Words Words (keeps_spaced w (keeps_plain w (old_type_plain n h.0.1).0)) (type_numbers_kept ns h.1)

old_types_kept : (own text : List ℕ) → PrintsBits OldTypes own text → Keeps Words text Words
old_types_kept own text (is, e) =
    let tests = and_parts (nat_le (length own) 16) (nat_lt (slice_index own 0) 128 && ends_in_no_zero own) is in
    let more = and_parts (nat_lt (slice_index own 0) 128) (ends_in_no_zero own) tests.1 in
    let are = old_types_are own (leb-true (length own) 16 tests.0) (ltb-true (slice_index own 0) 128 more.0) in
    subst (λ (t : List ℕ). Keeps Words t Words) (sym e) (type_numbers_kept (octets_codes 0 own) are)

field_kept : (kind : Kind) (d : Decoder) (value : FieldValue) (after : Decoder) (text : List ℕ) → AreBytes d.bytes → TakesField kind d value after
    → Prints kind value text → Keeps Words text Words
field_kept (kinds.Name form) d value after text h (ls, k, takes, e) print =
    by_value (kinds.Name form) value (name ls) text e print (λ p. kept_by text (full_name_text ls) p (keeps_name ls (labels_fit h takes.name.reads)))
field_kept kinds.U8 d value after text h takes print =
    let fit = own_fit kinds.U8 d h in by_value kinds.U8 value _ text takes.2 print (number_kept _ text (omega (arith, fit 0)))
field_kept kinds.U16 d value after text h takes print =
    let fit = own_fit kinds.U16 d h in by_value kinds.U16 value _ text takes.2 print (number_kept _ text (omega (arith, fit 0, fit 1)))
field_kept kinds.U32 d value after text h takes print =
    let fit = own_fit kinds.U32 d h in by_value kinds.U32 value _ text takes.2 print (number_kept _ text (omega (arith, fit 0, fit 1, fit 2, fit 3)))
field_kept kinds.U48 d value after text h takes print =
    let n = from_be_bytes w64 (0 ∷ 0 ∷ own_at kinds.U48 d) in
    by_value kinds.U48 value _ text takes.2 print (λ p. kept_by text _ p (keeps_plain _ (pairs_plain (drop 2 (to_be_bytes w64 n)) (six_fit n))))
field_kept kinds.U64 d value after text h takes print =
    let n = from_be_bytes w64 (own_at kinds.U64 d) in
    by_value kinds.U64 value _ text takes.2 print (λ p. kept_by text _ p (keeps_plain _ (pairs_plain (to_be_bytes w64 n) (eight_fit n))))
field_kept kinds.Ipv4 d value after text h takes print =
    let o = own_at kinds.Ipv4 d in
    let fit = own_fit kinds.Ipv4 d h in
    by_value kinds.Ipv4 value _ text takes.2 print
    (λ p. kept_by text _ p (keeps_plain _ (dotted (slice_index o 0) (slice_index o 1) (slice_index o 2) (slice_index o 3) (fit 0) (fit 1) (fit 2) (fit 3)).0))
field_kept kinds.Ipv6 d value after text h takes print =
    let own = own_at kinds.Ipv6 d in
    let fit = own_fit kinds.Ipv6 d h in
    by_value kinds.Ipv6 value _ text takes.2 print (λ p. kept_by text _ p (keeps_plain _ (bare_open (ipv6_text (segments_of own)) (ipv6_bare (segments_of own) (segments_fit own fit)))))
field_kept kinds.TypeCode d value after text h takes print =
    let n = from_be_bytes w16 (own_at kinds.TypeCode d) in
    let fit = own_fit kinds.TypeCode d h in
    by_value kinds.TypeCode value _ text takes.2 print
    (λ p. kept_by text _ p (keeps_plain _ (shown_plain (type_of_code n) (omega (arith, code_back n, fit 0, fit 1)))))
field_kept kinds.Time d value after text h takes print =
    by_value kinds.Time value _ text takes.2 print (λ p. let (date, is, e) = p in kept_by text date e (keeps_plain date (digits_plain date is.digits.1)))
field_kept (kinds.Counted Text) d value after text h takes print =
    by_value (kinds.Counted Text) value _ text takes.2 print (λ p. kept_by text _ p (keeps_string _ (counted_fit Text d h takes.0).0))
field_kept (kinds.Counted Tag) d value after text h takes print =
    by_value (kinds.Counted Tag) value _ text takes.2 print (λ p. let (is, e) = p in kept_by text _ e (keeps_plain _ (letters_plain _ is.2)))
field_kept (kinds.Counted Hex) d value after text h takes print =
    by_value (kinds.Counted Hex) value _ text takes.2 print (λ p. kept_by text _ p (keeps_plain _ (salt_plain _ (counted_fit Hex d h takes.0).0)))
field_kept (kinds.Counted Base32Hex) d value after text h takes print =
    let own = drop 1 (own_at (kinds.Counted Base32Hex) d) in
    let is = counted_fit Base32Hex d h takes.0 in
    by_value (kinds.Counted Base32Hex) value (counted own) text takes.2 print
    (λ p. let (some, e) = p in kept_by text (base32_text own) e (keeps_plain (base32_text own) (hash_plain (base32_text own) (hash own (is.0, some, is.1)).0.0)))
field_kept (kinds.Counted Base64) d value after text h takes print =
    by_none (kinds.Counted Base64) value (counted (drop 1 (own_at (kinds.Counted Base64) d))) text takes.2 print (λ p. p)
field_kept (kinds.Counted MaybeBase64) d value after text h takes print =
    by_none (kinds.Counted MaybeBase64) value (counted (drop 1 (own_at (kinds.Counted MaybeBase64) d))) text takes.2 print (λ p. p)
field_kept (kinds.Counted Nsap) d value after text h takes print =
    by_none (kinds.Counted Nsap) value (counted (drop 1 (own_at (kinds.Counted Nsap) d))) text takes.2 print (λ p. p)
field_kept (kinds.Counted Ports) d value after text h takes print =
    by_none (kinds.Counted Ports) value (counted (drop 1 (own_at (kinds.Counted Ports) d))) text takes.2 print (λ p. p)
field_kept (kinds.Counted OldTypes) d value after text h takes print =
    by_none (kinds.Counted OldTypes) value (counted (drop 1 (own_at (kinds.Counted OldTypes) d))) text takes.2 print (λ p. p)
field_kept kinds.LongTime d value after text h takes print =
    by_none kinds.LongTime value (u48 (from_be_bytes w64 (0 ∷ 0 ∷ own_at kinds.LongTime d))) text takes.2 print (λ p. p)
field_kept kinds.ChaosAddress d value after text h takes print =
    by_none kinds.ChaosAddress value (u16 (from_be_bytes w16 (own_at kinds.ChaosAddress d))) text takes.2 print (λ p. p)
field_kept kinds.Locator d value after text h takes print =
    let fit = own_fit kinds.Locator d h in
    let n = from_be_bytes w64 (own_at kinds.Locator d) in
    by_value kinds.Locator value _ text takes.2 print
    (λ p. kept_by text _ p (keeps_plain _ (locator_plain n (omega (arith, fit 0, fit 1, fit 2, fit 3, fit 4, fit 5, fit 6, fit 7)))))
field_kept kinds.NodeNumber d value after text h takes print =
    let fit = own_fit kinds.NodeNumber d h in
    by_value kinds.NodeNumber value _ text takes.2 print (number_kept _ text (omega (arith, fit 0, fit 1, fit 2, fit 3, fit 4, fit 5, fit 6, fit 7)))
field_kept (kinds.LongCounted shown) d value after text h takes print =
    by_none (kinds.LongCounted shown) value (long_counted (drop 2 (own_at (kinds.LongCounted shown) d))) text takes.2 print (λ p. p)
field_kept (kinds.Shaped shape) d value after text h takes print =
    by_value (kinds.Shaped shape) value _ text takes.2 print (shape_kept shape (own_at (kinds.Shaped shape) d) text (own_fit (kinds.Shaped shape) d h))
field_kept (kinds.Octets Text) d value after text h takes print =
    by_value (kinds.Octets Text) value _ text takes.2 print (λ p. kept_by text _ p (keeps_string _ (own_fit (kinds.Octets Text) d h)))
field_kept (kinds.Octets Hex) d value after text h takes print =
    by_value (kinds.Octets Hex) value _ text takes.2 print (λ p. subst (λ (t : List ℕ). Keeps Words t Words) (sym p.1) (hex_kept _ (own_fit (kinds.Octets Hex) d h)))
field_kept (kinds.Octets Base64) d value after text h takes print =
    by_value (kinds.Octets Base64) value _ text takes.2 print (λ p. subst (λ (t : List ℕ). Keeps Words t Words) (sym p.1) (base64_kept _ (own_fit (kinds.Octets Base64) d h)))
field_kept (kinds.Octets Tag) d value after text h takes print =
    by_none (kinds.Octets Tag) value (octets (own_at (kinds.Octets Tag) d)) text takes.2 print (λ p. p)
field_kept (kinds.Octets Base32Hex) d value after text h takes print =
    by_none (kinds.Octets Base32Hex) value (octets (own_at (kinds.Octets Base32Hex) d)) text takes.2 print (λ p. p)
field_kept (kinds.Octets MaybeBase64) d value after text h takes print =
    by_none (kinds.Octets MaybeBase64) value (octets (own_at (kinds.Octets MaybeBase64) d)) text takes.2 print (λ p. p)
field_kept (kinds.Octets Nsap) d value after text h takes print =
    by_value (kinds.Octets Nsap) value _ text takes.2 print (λ p. kept_by text _ p (keeps_plain _ (nsap_plain _ (own_fit (kinds.Octets Nsap) d h))))
field_kept (kinds.Octets Ports) d value after text h takes print =
    by_value (kinds.Octets Ports) value _ text takes.2 print (ports_kept (own_at (kinds.Octets Ports) d) text)
field_kept (kinds.Octets OldTypes) d value after text h takes print =
    by_value (kinds.Octets OldTypes) value _ text takes.2 print (old_types_kept (own_at (kinds.Octets OldTypes) d) text)
field_kept (kinds.List lists.Prefixes) d value after text h takes print =
    let own = own_at (kinds.List lists.Prefixes) d in
    by_value (kinds.List lists.Prefixes) value _ text takes.2 print (λ p. prefixes_kept (length own) own text (own_fit (kinds.List lists.Prefixes) d h) p)
field_kept (kinds.List lists.Names) d value after text h takes print =
    by_value (kinds.List lists.Names) value _ text takes.2 print
    (λ p. let (listed, are, e, t) = p in
    subst (λ (w : List ℕ). Keeps Words w Words) (sym t) (names_kept listed (subst IsOctets e (own_fit (kinds.List lists.Names) d h))))
field_kept (kinds.List lists.Texts) d value after text h takes print =
    by_value (kinds.List lists.Texts) value _ text takes.2 print
    (λ p. let (strings, are, e) = p in
    subst (λ (t : List ℕ). Keeps Words t Words) (sym e) (strings_kept strings (subst IsOctets are (own_fit (kinds.List lists.Texts) d h))))
field_kept (kinds.List lists.Types) d value after text h takes print =
    by_value (kinds.List lists.Types) value _ text takes.2 print
    (λ p. let (codes, listed, e) = p in
    subst (λ (t : List ℕ). Keeps Words t Words) (sym e) (types_kept _ _ codes (own_fit (kinds.List lists.Types) d h) listed))
field_kept (kinds.List lists.Params) d value after text h takes print =
    by_value (kinds.List lists.Params) value _ text takes.2 print (λ p. params_kept _ _ text (own_fit (kinds.List lists.Params) d h) p.1)

fields_kept : (kinds : List Kind) (d : Decoder) (text : List ℕ) → AreBytes d.bytes → PrintsFields kinds d text → Keeps Words text Words
fields_kept [] d text h (end, none) = subst (λ (t : List ℕ). Keeps Words t Words) (sym none) (keeps_none Words)
fields_kept (kind ∷ kinds) d text h (value, after, own, others, takes, print, prints, e) =
    let bytes : AreBytes after.bytes = subst AreBytes (sym (moves_on kind d after value takes).1) h in
    subst (λ (t : List ℕ). Keeps Words t Words) (sym e)
    (keeps_both own others Words Words Words (field_kept kind d value after own h takes print) (fields_kept kinds after others bytes prints))

-- ---- data

-- the space before the first field is there again
spaced_kept : (printed : List ℕ) → Keeps Words printed Words → Keeps Words (spaced (without_space printed)) Words
spaced_kept [] h = keeps_none Words
spaced_kept (c ∷ []) h = elim (cases_Bool (c == 32)) [
  | inl space ↦ rw space (keeps_none Words)
  | inr other ↦ rw other (keeps_spaced (c ∷ []) h)
]
spaced_kept (c ∷ d ∷ printed) h = elim (cases_Bool (c == 32)) [
  | inl space ↦ let is : c ≡ 32 = grind arith in rw space (subst (λ (x : ℕ). Keeps Words (x ∷ d ∷ printed) Words) is h)
  | inr other ↦ rw other (keeps_spaced (c ∷ d ∷ printed) h)
]

generic_kept : (own : List ℕ) → IsOctets own → length own ≤ max_data → Keeps Words (generic_text own) Words
generic_kept own h few =
    keeps_then 92 _ Words Escaped Words refl
    (keeps_then 35 _ Escaped Words Words refl
    (keeps_both (32 ∷ decimal (length own)) (hex_part own) Words Words Words
    (keeps_spaced _ (keeps_plain _ (decimal_plain (length own) (omega (arith, few))))) (hex_kept own h)))

-- what is printed of data, after a space if there is any, unless the data are more than data may have
pub data_kept : (r : RecordValue) (text : List ℕ) → AreBytes r.message → IsDataText r text
    → ((own : List ℕ) × IsPlainData r own × (max_data < length own)) ⊎ Keeps Words (spaced text) Words
data_kept r text h (inl (known, is)) =
    let (form, printed, prints, shown, e) = is in
    let d = (record_fields r).reader in
    let bytes : AreBytes d.bytes = take_fit (r.start + r.len - 0) r.message h in
    inr (subst (λ (t : List ℕ). Keeps Words (spaced t) Words) (sym e) (spaced_kept printed (fields_kept (record_fields r).kinds d printed bytes prints)))
data_kept r text h (inr (lacks, own, plain, e)) = elim (cases_lt max_data (length own)) [
  | inl many ↦ inl (own, plain, many)
  | inr few ↦ inr (subst (λ (t : List ℕ). Keeps Words (spaced t) Words) (sym e) (keeps_spaced (generic_text own) (generic_kept own (data_fit r own h plain) few)))
]
