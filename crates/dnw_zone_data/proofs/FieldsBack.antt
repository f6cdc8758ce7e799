-- What is printed of a field is read as that field, whatever is after it.
use Rattle.std.proofs.Common.{◌≡◌, ◌≢◌, ℕ, suc, ◌+◌, ◌/◌, ◌%◌, ◌<◌, ◌≤◌, true, false, ◌&&◌, List, [], ◌∷◌, ◌++◌, zero, length, codes, slice_index, refl, sym, ap, ◌∙◌, subst, arith, decimal, append_assoc, append-nil, length-append, inl, inr}
use Rattle.std.specs.Prelude.{Bool, not, nat_le, nat_lt, flat_map, Option, Some}
use Rattle.std.specs.Net.Addr.{ipv4_octets, IsIpv4Addr}
use Rattle.std.specs.Net.Text.{dotted_text, ipv4_text}
use Rattle.std.specs.declared.net.Ipv4Addr.{Ipv4Addr}
use Rattle.std.proofs.NetLemmas.Texts.{IsDotted-ipv4_text}
use Rattle.std.specs.List.{AllPass}
use Rattle.std.specs.Char.{is_ascii_digit, is_ascii_alphanumeric}
use Rattle.std.proofs.lemmas.Fmt.{decimal_nonempty}
use Rattle.std.proofs.lemmas.Bool.{cases_eq, cases_Bool, lt-ltb, ltb-true, ne_eqb}
use Rattle.std.proofs.lemmas.List.{take_at, drop_at}
use Rattle.hex.proofs.HexLemmas.{length-encode_with}
use Rattle.hex.specs.Hex.{upper_digits}
use Rattle.dnw_base.specs.Names.{NameValue}
use Rattle.dnw_base.specs.declared.record_type.RecordType.{RecordType}
use Rattle.dnw_base.specs.declared.record_type.RecordType.TheVariants as rr
use Rattle.dnw_base.specs.CodeTexts.{numbered}
use Rattle.dnw_base.specs.RecordTypes.{type_code, type_name, type_of_code, type_of_text, type_text}
use Rattle.dnw_base.proofs.Digits.{numbered_back}
use Rattle.dnw_base.proofs.PrintedTypes.{text_by, types_come_back}
use Rattle.dnw_data.specs.declared.kind.Kind.{Kind}
use Rattle.dnw_data.specs.declared.kind.Kind.TheVariants.{U8, U16, U32, Ipv4, TypeCode, Time, Counted, Octets, List as ListOf}
use Rattle.dnw_data.specs.declared.kind.Shown.TheVariants.{Text, Tag, Hex, Base32Hex}
use Rattle.dnw_data.specs.Values.{FieldValue, u8, u16, u32, ipv4, time, counted, octets}
use Rattle.dnw_data.specs.Values.{texts, items}
use Rattle.dnw_data.specs.Values.{type_code as type_code_of}
use Rattle.dnw_data.specs.declared.kind.ListKind.TheVariants as lists
use Rattle.dnw_base.specs.Names.{label_wire}
use Rattle.dnw_zone_values.specs.Numbers.{max_u8, max_u16, max_u32}
use Rattle.dnw_zone_values.specs.Octets.{IsOctets, IsSalt, hex_text, salt_text}
use Rattle.dnw_zone_values.specs.Strings.{quote, backslash, IsString, IsStringText, IsText, octet_text, string_text}
use Rattle.dnw_zone_values.specs.Base32.{IsHash, is_base32, base32_text}
use Rattle.dnw_zone_values.proofs.Identifiers.{hash}
use Rattle.dnw_zone_values.proofs.ComeBack.{numbers, salt}
use Rattle.dnw_zone_values.proofs.StringText.{string, text}
use Rattle.dnw_zone_data.specs.declared.extent.Extent.TheVariants.{One}
use Rattle.dnw_zone_data.specs.declared.number_form.NumberForm.{NumberForm}
use Rattle.dnw_zone_data.specs.NumberForms.{is_given}
use Rattle.dnw_zone_data.specs.Words.{is_asterisk, is_end, quoted_len, word_len, word, after_word, after_spaces}
use Rattle.dnw_zone_data.specs.Parsing.{extent_of, IsWord, ReadsField}
use Rattle.dnw_zone_data.specs.StringLists.{AreStringWords, AreTexts}
use Rattle.dnw_zone_data.specs.Printing.{strings_text}
use Rattle.dnw_zone_data.specs.TypeLists.{has_unread_name, shown_type}
use Rattle.dnw_zone_data.specs.DataTextLaws.{IsReadType, IsFieldReadBack, FieldComesBack}
use Rattle.dnw_zone_data.specs.Generic.{generic_mark, hex_part}
use Rattle.dnw_zone_data.proofs.GenericText.{hex_end, hex_words}
use Rattle.dnw_zone_data.proofs.NumberFormsBack.{in_any_form}
use Rattle.dnw_zone_data.proofs.Plain.{is_plain, plain_by_tests, all_plain, plain_starts, plain_word, plain_after, plain_utf8, plain_append, decimal_plain, hex_plain}

-- a word is read as its field
pub by_word : (origin : Option NameValue) (way : NumberForm) (kind : Kind) (printed w rest : List ℕ) (value : FieldValue) → extent_of kind ≡ One
    → printed ≡ 32 ∷ w → after_spaces (w ++ rest) ≡ w ++ rest → word (w ++ rest) ≡ w → after_word (w ++ rest) ≡ rest → IsWord origin way kind w value
    → w ≢ generic_mark → IsFieldReadBack origin way kind printed value rest
by_word origin way kind printed w rest value one print begins whole left is other =
    let start : after_spaces (printed ++ rest) ≡ w ++ rest = ap (λ (xs : List ℕ). after_spaces (xs ++ rest)) print ∙ begins in
    let reads : IsWord origin way kind (word (w ++ rest)) value × (rest ≡ after_word (w ++ rest)) =
    (subst (λ (xs : List ℕ). IsWord origin way kind xs value) (sym whole) is, sym left) in
    let by : ReadsField origin way kind (w ++ rest) value rest = rw one reads in
    (subst (λ (xs : List ℕ). ReadsField origin way kind xs value rest) (sym start) by, λ e. other (sym whole ∙ ap word (sym start) ∙ e), ap is_end print)

-- ---- plain words

pub plain_other : (w : List ℕ) → all_plain w ≡ true → w ≢ generic_mark
plain_other w plain e = let no : false ≡ true = ap all_plain (sym e) ∙ plain in cc

pub plain_by : (origin : Option NameValue) (way : NumberForm) (kind : Kind) (printed w rest : List ℕ) (value : FieldValue) → extent_of kind ≡ One
    → printed ≡ 32 ∷ w → all_plain w ≡ true → 0 < length w → is_end rest ≡ true → IsWord origin way kind w value
    → IsFieldReadBack origin way kind printed value rest
plain_by origin way kind printed w rest value one print plain some end is =
    by_word origin way kind printed w rest value one print (plain_starts w rest plain some) (plain_word w rest plain end) (plain_after w rest plain end) is (plain_other w plain)

pub u8_back : (n : ℕ) → n ≤ max_u8 → FieldComesBack U8 (u8 n)
u8_back n few origin way printed rest print end =
    let plain = decimal_plain n (omega (arith, few)) in
    let some = decimal_nonempty n (omega (arith, few)) in
    plain_by origin way U8 printed (decimal n) rest (u8 n) refl print plain some end.1 (n, in_any_form way max_u8 n (omega arith) few, refl)

pub u16_back : (n : ℕ) → n ≤ max_u16 → FieldComesBack U16 (u16 n)
u16_back n few origin way printed rest print end =
    let plain = decimal_plain n (omega (arith, few)) in
    let some = decimal_nonempty n (omega (arith, few)) in
    plain_by origin way U16 printed (decimal n) rest (u16 n) refl print plain some end.1 (n, in_any_form way max_u16 n (omega arith) few, refl)

pub u32_back : (n : ℕ) → n ≤ max_u32 → FieldComesBack U32 (u32 n)
u32_back n few origin way printed rest print end =
    let plain = decimal_plain n (omega (arith, few)) in
    let some = decimal_nonempty n (omega (arith, few)) in
    plain_by origin way U32 printed (decimal n) rest (u32 n) refl print plain some end.1 (n, in_any_form way max_u32 n (omega arith) few, refl)

digit_plain : (c : ℕ) → is_ascii_digit c ≡ true → is_plain c ≡ true
digit_plain c h = grind arith

digits_plain : (w : List ℕ) → AllPass is_ascii_digit w → all_plain w ≡ true
digits_plain [] h = refl
digits_plain (c ∷ w) h = rw (digit_plain c (h 0 0 (omega arith))) (digits_plain w (λ i d within. h (suc i) d (omega arith)))

pub time_back : (n : ℕ) → n ≤ max_u32 → FieldComesBack Time (time n)
time_back n few origin way printed rest print end =
    let (date, is, e) = print in
    let plain = digits_plain date is.digits.1 in
    plain_by origin way Time printed date rest (time n) refl e plain (omega (arith, is.digits.0)) end.1 (n, inl (n, is, omega (arith, few)), refl)

letter_plain : (c : ℕ) → is_ascii_alphanumeric c ≡ true → is_plain c ≡ true
letter_plain c h = plain_by_tests c (grind arith) (grind arith) (grind arith) (grind arith) (grind arith) (grind arith) (grind arith)

letters_plain : (w : List ℕ) → AllPass is_ascii_alphanumeric w → all_plain w ≡ true
letters_plain [] h = refl
letters_plain (c ∷ w) h = rw (letter_plain c (h 0 0 (omega arith))) (letters_plain w (λ i d within. h (suc i) d (omega arith)))

pub tag_back : (tag : List ℕ) → FieldComesBack (Counted Tag) (counted tag)
tag_back tag origin way printed rest print end =
    let (is, e) = print in
    let plain = letters_plain tag is.2 in
    plain_by origin way (Counted Tag) printed tag rest (counted tag) refl e plain is.0 end.1 (tag, (refl, is), refl)

salt_plain : (own : List ℕ) → IsOctets own → all_plain (salt_text own) ≡ true
salt_plain [] h = refl
salt_plain (o ∷ own) h = hex_plain (o ∷ own) h

salt_some : (own : List ℕ) → 0 < length (salt_text own)
salt_some [] = omega arith
salt_some (o ∷ own) = omega (arith, length-encode_with upper_digits (o ∷ own))

pub salt_back : (own : List ℕ) → IsSalt own → FieldComesBack (Counted Hex) (counted own)
salt_back own is origin way printed rest print end =
    let w = salt_text own in
    let plain = salt_plain own is.0 in
    plain_by origin way (Counted Hex) printed w rest (counted own) refl print plain (salt_some own) end.1 (own, (salt own is).0, refl)

name_plain : (record_type : RecordType) → all_plain (type_name record_type) ≡ true
name_plain (rr.Unknown code) = refl
name_plain record_type = refl

number_plain : (code : ℕ) → code < 65536 → all_plain (numbered (codes "TYPE") code) ≡ true
number_plain code h = plain_append (codes "TYPE") (decimal code) refl (decimal_plain code (omega (arith, h)))

pub type_plain : (record_type : RecordType) → type_code record_type < 65536 → all_plain (type_text record_type) ≡ true
type_plain record_type h = text_by all_plain name_plain refl record_type (number_plain (type_code record_type) h)

name_other : (record_type : RecordType) → not (is_asterisk (type_name record_type)) ≡ true
name_other (rr.Unknown code) = refl
name_other record_type = refl

not_true : (b : Bool) → not b ≡ true → b ≡ false
not_true true e = absurd cc
not_true false e = refl

-- no type is printed as `*`
pub type_other : (record_type : RecordType) → is_asterisk (type_text record_type) ≡ false
type_other record_type = not_true (is_asterisk (type_text record_type)) (text_by (λ w. not (is_asterisk w)) name_other refl record_type refl)

name_some : (record_type : RecordType) → nat_lt 0 (length (type_name record_type)) ≡ true
name_some (rr.Unknown code) = refl
name_some record_type = refl

number_some : (code : ℕ) → 0 < length (numbered (codes "TYPE") code)
number_some code = omega (arith, length-append (codes "TYPE") (decimal code))

pub type_some : (record_type : RecordType) → 0 < length (type_text record_type)
type_some record_type =
    let number = lt-ltb 0 (length (numbered (codes "TYPE") (type_code record_type))) (number_some (type_code record_type)) in
    ltb-true 0 (length (type_text record_type)) (text_by (λ w. nat_lt 0 (length w)) name_some refl record_type number)

-- the text of a type in data is its name or its number
shown_by : (P : List ℕ → Type 0) (record_type : RecordType) → P (numbered (codes "TYPE") (type_code record_type)) → P (type_text record_type) → P (shown_type record_type)
shown_by P record_type number name = elim (cases_Bool (has_unread_name (type_code record_type))) [ inl unread ↦ rw unread number | inr read ↦ rw read name ]

pub shown_plain : (record_type : RecordType) → type_code record_type < 65536 → all_plain (shown_type record_type) ≡ true
shown_plain record_type h = shown_by (λ w. all_plain w ≡ true) record_type (number_plain (type_code record_type) h) (type_plain record_type h)

pub shown_some : (record_type : RecordType) → 0 < length (shown_type record_type)
shown_some record_type = shown_by (λ w. 0 < length w) record_type (number_some (type_code record_type)) (type_some record_type)

pub shown_other : (record_type : RecordType) → is_asterisk (shown_type record_type) ≡ false
shown_other record_type = shown_by (λ w. is_asterisk w ≡ false) record_type refl (type_other record_type)

number_back : (code : ℕ) → code < 65536 → type_of_text (numbered (codes "TYPE") code) ≡ Some (type_of_code code)
unfolding type_of_text
number_back code h = rw (numbered_back (codes "TYPE") code h) refl

pub shown_back : (record_type : RecordType) → type_code record_type < 65536 → type_of_text (shown_type record_type) ≡ Some (type_of_code (type_code record_type))
shown_back record_type h = shown_by (λ w. type_of_text w ≡ Some (type_of_code (type_code record_type))) record_type (number_back (type_code record_type) h) (types_come_back record_type h)

pub type_back : (record_type : RecordType) → IsReadType record_type → FieldComesBack TypeCode (type_code_of record_type)
type_back record_type is origin way printed rest print end =
    let w = shown_type record_type in
    let plain = shown_plain record_type is.0 in
    plain_by origin way TypeCode printed w rest (type_code_of record_type) refl print plain (shown_some record_type) end.1 (record_type, (plain_utf8 w plain, shown_back record_type is.0 ∙ ap Some is.1, shown_other record_type), refl)

pub longer : (x y : List ℕ) → all_plain x ≡ true → 0 < length x → all_plain y ≡ true → (all_plain (x ++ y) ≡ true) × (0 < length (x ++ y))
longer x y p some q = (plain_append x y p q, omega (arith, some, length-append x y))

octet_plain : (n : ℕ) → n < 256 → all_plain (decimal n) ≡ true
octet_plain n h = decimal_plain n (omega (arith, h))

pub dotted : (a b c d : ℕ) → a < 256 → b < 256 → c < 256 → d < 256 → (all_plain (dotted_text a b c d) ≡ true) × (0 < length (dotted_text a b c d))
dotted a b c d ha hb hc hd =
    let dot = codes "." in
    let one = decimal a ++ dot in
    let two = (one ++ decimal b) ++ dot in
    let three = (two ++ decimal c) ++ dot in
    let some = (numbers max_u8 (omega arith) a (omega (arith, ha))).0.0.0 in
    let p = longer (decimal a) dot (octet_plain a ha) some refl in
    let q = longer one (decimal b) p.0 p.1 (octet_plain b hb) in
    let r = longer (one ++ decimal b) dot q.0 q.1 refl in
    let s = longer two (decimal c) r.0 r.1 (octet_plain c hc) in
    let u = longer (two ++ decimal c) dot s.0 s.1 refl in
    longer three (decimal d) u.0 u.1 (octet_plain d hd)

pub ipv4_back : (a : Ipv4Addr) → IsIpv4Addr a → FieldComesBack Ipv4 (ipv4 (ipv4_octets a))
ipv4_back a is origin way printed rest print end =
    let o = ipv4_octets a in
    let w = ipv4_text o in
    let shape = dotted (slice_index o 0) (slice_index o 1) (slice_index o 2) (slice_index o 3) (is.1 0) (is.1 1) (is.1 2) (is.1 3) in
    plain_by origin way Ipv4 printed w rest (ipv4 o) refl print shape.0 shape.1 end.1 (a, IsDotted-ipv4_text _ is.0 is.1, refl)

base32_plain : (c : ℕ) → is_base32 c ≡ true → is_plain c ≡ true
base32_plain c h = plain_by_tests c (grind arith) (grind arith) (grind arith) (grind arith) (grind arith) (grind arith) (grind arith)

hash_plain : (w : List ℕ) → AllPass is_base32 w → all_plain w ≡ true
hash_plain [] h = refl
hash_plain (c ∷ w) h = rw (base32_plain c (h 0 0 (omega arith))) (hash_plain w (λ i d within. h (suc i) d (omega arith)))

hash_some : (own : List ℕ) → 1 ≤ length own → 0 < length (base32_text own)
hash_some [] some = absurd (omega arith)
hash_some (a ∷ []) some = omega arith
hash_some (a ∷ b ∷ []) some = omega arith
hash_some (a ∷ b ∷ c ∷ []) some = omega arith
hash_some (a ∷ b ∷ c ∷ d ∷ []) some = omega arith
hash_some (a ∷ b ∷ c ∷ d ∷ e ∷ own) some = omega arith

pub hash_back : (own : List ℕ) → IsHash own → FieldComesBack (Counted Base32Hex) (counted own)
hash_back own is origin way printed rest print end =
    let w = base32_text own in
    let spells = (hash own is).0 in
    let plain = hash_plain w spells.0 in
    plain_by origin way (Counted Base32Hex) printed w rest (counted own) refl print.1 plain (hash_some own is.1) end.1 (own, spells, refl)

-- ---- all words

-- plain words are no mark
pub plain_no_mark : (t : List ℕ) → all_plain t ≡ true → word (after_spaces t) ≢ generic_mark
plain_no_mark [] plain e = cc
plain_no_mark (c ∷ t) plain e =
    let w = c ∷ t in
    let whole : word (after_spaces w) ≡ w =
    ap (λ (xs : List ℕ). word (after_spaces xs)) (sym (append-nil w)) ∙ ap word (plain_starts w [] plain (omega arith)) ∙ plain_word w [] plain refl in
    plain_other w plain (sym whole ∙ e)

hex_no_mark : (own : List ℕ) → IsOctets own → word (after_spaces (hex_part own)) ≢ generic_mark
hex_no_mark [] h e = cc
hex_no_mark (o ∷ own) h e = plain_no_mark (hex_text (o ∷ own)) (hex_plain (o ∷ own) h) e

pub some_given : (way : NumberForm) (own : List ℕ) → 1 ≤ length own → is_given way own ≡ true
some_given way [] some = absurd (omega (arith, some))
some_given way (o ∷ own) some = refl

pub octets_back : (own : List ℕ) → IsOctets own → FieldComesBack (Octets Hex) (octets own)
octets_back own is origin way printed rest print end =
    let none : rest ≡ [] = end.0 refl in
    let words = hex_words own is in
    let reads : ReadsField origin way (Octets Hex) (after_spaces (hex_part own)) (octets own) [] = ((own, (words.0, some_given way own print.0), refl), refl) in
    rw (none, print.1, append-nil) (reads, hex_no_mark own is, hex_end own)

-- ---- words in quotes

-- an octet in quotes
octet_len : (o : ℕ) (xs : List ℕ) → o < 256 → quoted_len false (octet_text o ++ xs) ≡ length (octet_text o) + quoted_len false xs
octet_len o xs fits = elim (cases_eq o quote) [
  | inl e ↦ rw e (omega arith)
  | inr no_quote ↦ elim (cases_eq o backslash) [
    | inl e ↦ rw e (omega arith)
    | inr plain ↦
        let a = ne_eqb o quote no_quote in
        let b = ne_eqb o backslash plain in
        elim (cases_Bool (nat_le 32 o && nat_le o 126)) [
          | inl printable ↦ rw (a, b, printable, a, b) (omega arith)
          | inr other ↦
              let c = ne_eqb (48 + o / 10 % 10) quote (omega arith) in
              let d = ne_eqb (48 + o / 10 % 10) backslash (omega arith) in
              let e = ne_eqb (48 + o % 10) quote (omega arith) in
              let f = ne_eqb (48 + o % 10) backslash (omega arith) in
              rw (a, b, other, c, d, e, f) (omega arith)
        ]
  ]
]

in_quotes : (own rest : List ℕ) → IsOctets own → quoted_len false (flat_map octet_text own ++ quote ∷ rest) ≡ length (flat_map octet_text own) + 1
in_quotes [] rest h = refl
in_quotes (o ∷ own) rest h =
    let so_far = in_quotes own rest (λ i. h (suc i)) in
    rw (append_assoc (octet_text o) (flat_map octet_text own) (quote ∷ rest))
    (octet_len o (flat_map octet_text own ++ quote ∷ rest) (h 0) ∙ omega (arith, so_far, length-append (octet_text o) (flat_map octet_text own)))

pub string_len : (own rest : List ℕ) → IsOctets own → word_len (string_text own ++ rest) ≡ length (string_text own)
string_len own rest h =
    let seam = append_assoc (flat_map octet_text own) (quote ∷ []) rest in
    let size = in_quotes own rest h in
    ap (λ (xs : List ℕ). word_len (quote ∷ xs)) seam ∙ omega (arith, size, length-append (flat_map octet_text own) (quote ∷ []))

string_word : (own rest : List ℕ) → IsOctets own → is_end rest ≡ true → word (string_text own ++ rest) ≡ string_text own
string_word own rest h end = take_at (string_text own) rest _ (sym (string_len own rest h))

string_after : (own rest : List ℕ) → IsOctets own → is_end rest ≡ true → after_word (string_text own ++ rest) ≡ rest
string_after own rest h end = drop_at (string_text own) rest _ (sym (string_len own rest h))

pub string_back : (own : List ℕ) → IsString own → FieldComesBack (Counted Text) (counted own)
string_back own is origin way printed rest print end =
    let w = string_text own in
    by_word origin way (Counted Text) printed w rest (counted own) refl print refl (string_word own rest is.0 end.1) (string_after own rest is.0 end.1)
    (own, (string own is).0, refl) (λ e. cc)

pub text_back : (own : List ℕ) → IsText own → FieldComesBack (Octets Text) (octets own)
text_back own is origin way printed rest print end =
    let w = string_text own in
    by_word origin way (Octets Text) printed w rest (octets own) refl print refl (string_word own rest is.0 end.1) (string_after own rest is.0 end.1)
    (own, (text own is).0, refl) (λ e. cc)

-- ---- strings up to the end

pub first : (x : ℕ) (xs : List ℕ) → x < 256 → IsOctets xs → IsOctets (x ∷ xs)
first x xs h k zero = h
first x xs h k (suc i) = k i

pub octets_parts : (a b : List ℕ) → IsOctets (a ++ b) → IsOctets a × IsOctets b
octets_parts [] b h = ((λ i. omega arith), h)
octets_parts (x ∷ a) b h = let parts = octets_parts a b (λ i. h (suc i)) in (first x a (h 0) parts.0, parts.1)

strings_end : (strings : List (List ℕ)) → is_end (strings_text strings) ≡ true
strings_end [] = refl
strings_end (s ∷ strings) = refl

strings_words : (strings : List (List ℕ)) → IsOctets (flat_map label_wire strings) → AreStringWords (strings_text strings) strings
strings_words [] h = refl
strings_words (s ∷ strings) h =
    let few : length s < 256 = h 0 in
    let parts = octets_parts s (flat_map label_wire strings) (λ i. h (suc i)) in
    let rest = strings_text strings in
    let end = strings_end strings in
    let is : IsStringText (string_text s) s = (string s (parts.0, omega (arith, few))).0 in
    let whole = string_word s rest parts.0 end in
    let left = string_after s rest parts.0 end in
    let words : AreStringWords (32 ∷ string_text s ++ rest) (s ∷ strings) =
    ((λ none. let no : quote ∷ _ ≡ [] = none in cc), subst (λ (w : List ℕ). IsStringText w s) (sym whole) is, subst (λ (xs : List ℕ). AreStringWords xs strings) (sym left) (strings_words strings parts.1)) in
    words

quoted_other : (s : List ℕ) → string_text s ≢ generic_mark
quoted_other s e = cc

strings_no_mark : (strings : List (List ℕ)) → IsOctets (flat_map label_wire strings) → word (after_spaces (strings_text strings)) ≢ generic_mark
strings_no_mark [] h e = cc
strings_no_mark (s ∷ strings) h e =
    let fit = (octets_parts s (flat_map label_wire strings) (λ i. h (suc i))).0 in
    let start : after_spaces (strings_text (s ∷ strings)) ≡ string_text s ++ strings_text strings = refl in
    quoted_other s (sym (string_word s (strings_text strings) fit (strings_end strings)) ∙ ap word (sym start) ∙ e)

texts_of : (own : List ℕ) (strings : List (List ℕ)) → own ≡ flat_map label_wire strings → IsOctets own → 1 ≤ length own → length own ≤ 65535
    → AreTexts (after_spaces (strings_text strings)) (texts (items lists.Texts own))
texts_of own [] e h some few = absurd (omega (arith, some, ap length e))
texts_of own (s ∷ strings) e h some few =
    let words = strings_words (s ∷ strings) (subst IsOctets e h) in
    (s, strings, words, subst (λ (xs : List ℕ). length xs ≤ 65535) e few, ap (λ (xs : List ℕ). texts (items lists.Texts xs)) e)

pub strings_back : (own : List ℕ) → IsOctets own → 1 ≤ length own → length own ≤ 65535 → FieldComesBack (ListOf lists.Texts) (texts (items lists.Texts own))
strings_back own h some few origin way printed rest print end =
    let (strings, are, e) = print in
    let none : rest ≡ [] = end.0 refl in
    rw (none, e, append-nil) ((texts_of own strings are h some few, refl), strings_no_mark strings (subst IsOctets are h), strings_end strings)
