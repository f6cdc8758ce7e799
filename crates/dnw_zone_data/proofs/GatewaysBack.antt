-- Gateways, relays and host identities are read as they were printed.
use Rattle.std.proofs.Common.{◌≡◌, ◌≢◌, ℕ, suc, ◌+◌, ◌*◌, ◌<◌, ◌≤◌, ◌⊎◌, true, List, [], ◌∷◌, ◌++◌, length, codes, decimal, slice_index, refl, sym, ap, ◌∙◌, subst, arith, append_assoc, append-nil, inl, inr}
use Rattle.std.specs.Prelude.{Option}
use Rattle.std.specs.List.{AllByRecursion}
use Rattle.std.specs.Net.Addr.{segments_of}
use Rattle.std.specs.Net.Text.{ipv4_text, ipv6_text}
use Rattle.std.specs.declared.net.Ipv4Addr.{Ipv4Addr}
use Rattle.std.specs.declared.net.Ipv6Addr.{Ipv6Addr}
use Rattle.std.proofs.NetLemmas.Texts.{IsColonHex-ipv6_text, IsDotted-ipv4_text}
use Rattle.std.proofs.lemmas.Fmt.{decimal_nonempty}
use Rattle.std.proofs.lemmas.List.{take_at, drop_at}
use Rattle.hex.proofs.HexLemmas.{length-encode_with}
use Rattle.hex.specs.Hex.{upper_digits}
use Rattle.dnw_base.specs.Names.{NameValue, AreLabels, label_wire, labels_wire, wire}
use Rattle.dnw_data.specs.declared.kind.Kind.{Kind}
use Rattle.dnw_data.specs.declared.kind.Kind.TheVariants as kinds
use Rattle.dnw_data.specs.declared.kind.Shape.{Shape}
use Rattle.dnw_data.specs.declared.kind.Shape.TheVariants.{Location, Gateway, Relay, HostIdentity, AddressSuffix}
use Rattle.dnw_data.specs.Values.{FieldValue}
use Rattle.dnw_name_text.specs.NameTexts.{full_name_text}
use Rattle.dnw_zone_values.specs.Numbers.{max_u8, IsNumberText}
use Rattle.dnw_zone_values.specs.Octets.{IsOctets, base64_text, hex_text}
use Rattle.dnw_zone_values.proofs.ComeBack.{hexadecimal, numbers}
use Rattle.dnw_zone_values.proofs.ParamTextsBack.{base64_open, base64_some, bare_open, halves, ipv6_bare, segments_fit}
use Rattle.dnw_zone_data.specs.declared.extent.Extent.TheVariants.{Three}
use Rattle.dnw_zone_data.specs.declared.number_form.NumberForm.{NumberForm}
use Rattle.dnw_zone_data.specs.Words.{after_spaces, after_word, is_end, second_word_on, word}
use Rattle.dnw_zone_data.specs.Gateways.{IsGatewayEnd, PrintsEnd, identity_wire, of_shape, relay_flag, three_words}
use Rattle.dnw_zone_data.specs.Generic.{generic_mark}
use Rattle.dnw_zone_data.specs.Parsing.{AreThree, ReadsField, extent_of}
use Rattle.dnw_zone_data.specs.DataTextLaws.{FieldComesBack, IsFieldReadBack}
use Rattle.dnw_zone_data.proofs.FieldsBack.{dotted, octets_parts, plain_other}
use Rattle.dnw_zone_data.proofs.LocationsBack.{location_back}
use Rattle.dnw_zone_data.proofs.NamesBack.{name_is, name_len, name_starts}
use Rattle.dnw_zone_data.proofs.Plain.{all_plain, decimal_plain, hex_plain, plain_after, plain_starts, plain_word}
use Rattle.dnw_zone_data.proofs.WordsBack.{ipv6_some}

-- ---- words

-- A text is one word, whatever follows it.
pub record IsOneWord (w : List ℕ) : Type 0 where
  pub begins : (rest : List ℕ) → is_end rest ≡ true → after_spaces (w ++ rest) ≡ w ++ rest
  pub whole : (rest : List ℕ) → is_end rest ≡ true → word (w ++ rest) ≡ w
  pub left : (rest : List ℕ) → is_end rest ≡ true → after_word (w ++ rest) ≡ rest

pub plain_one : (w : List ℕ) → all_plain w ≡ true → 0 < length w → IsOneWord w
plain_one w plain some = record {
  begins = λ rest end. plain_starts w rest plain some;
  whole = λ rest end. plain_word w rest plain end;
  left = λ rest end. plain_after w rest plain end;
}

pub name_one : (labels : List (List ℕ)) → AreLabels labels → AllByRecursion IsOctets labels → IsOneWord (full_name_text labels)
name_one labels are h = record {
  begins = λ rest end. name_starts labels rest are.each;
  whole = λ rest end. take_at (full_name_text labels) rest _ (sym (name_len labels rest are.each h end));
  left = λ rest end. drop_at (full_name_text labels) rest _ (sym (name_len labels rest are.each h end));
}

-- Three words are at the start of a text, and this is after them.
record AreAt (a b c left rest : List ℕ) : Type 0 where
  first : word left ≡ a
  second : word (second_word_on left) ≡ b
  third : word (second_word_on (second_word_on left)) ≡ c
  after : after_word (second_word_on (second_word_on left)) ≡ rest

three_seam : (x y z rest : List ℕ) → (x ++ (y ++ z)) ++ rest ≡ x ++ (y ++ (z ++ rest))
three_seam x y z rest = append_assoc x (y ++ z) rest ∙ ap (λ (t : List ℕ). x ++ t) (append_assoc y z rest)

three_at : (a b c rest : List ℕ) → IsOneWord a → IsOneWord b → IsOneWord c → is_end rest ≡ true → AreAt a b c (after_spaces (three_words a b c ++ rest)) rest
three_at a b c rest one two three end =
    let last : List ℕ = 32 ∷ c ++ rest in
    let others : List ℕ = 32 ∷ b ++ last in
    let seam : three_words a b c ++ rest ≡ (32 ∷ a) ++ others = three_seam (32 ∷ a) (32 ∷ b) (32 ∷ c) rest in
    let start : after_spaces (three_words a b c ++ rest) ≡ a ++ others = ap after_spaces seam ∙ one.begins others refl in
    let second : second_word_on (a ++ others) ≡ b ++ last = ap after_spaces (one.left others refl) ∙ two.begins last refl in
    let third : second_word_on (b ++ last) ≡ c ++ rest = ap after_spaces (two.left last refl) ∙ three.begins rest end in
    let at_third : second_word_on (second_word_on (a ++ others)) ≡ c ++ rest = ap second_word_on second ∙ third in
    rw start (record {
      first = one.whole others refl;
      second = ap word second ∙ two.whole last refl;
      third = ap word at_third ∙ three.whole rest end;
      after = ap after_word at_third ∙ three.left rest end;
    })

-- three words are read as their field
by_three : (origin : Option NameValue) (way : NumberForm) (kind : Kind) (printed a b c rest : List ℕ) (value : FieldValue) → extent_of kind ≡ Three
    → printed ≡ three_words a b c → IsOneWord a → IsOneWord b → IsOneWord c → is_end rest ≡ true → a ≢ generic_mark → AreThree origin kind a b c value
    → IsFieldReadBack origin way kind printed value rest
by_three origin way kind printed a b c rest value extent print one two three end other is =
    let at = three_at a b c rest one two three end in
    let left = after_spaces (three_words a b c ++ rest) in
    let words : AreThree origin kind (word left) (word (second_word_on left)) (word (second_word_on (second_word_on left))) value = rw (at.first, at.second, at.third) is in
    let reads : ReadsField origin way kind left value rest = rw extent (words, sym at.after) in
    rw print (reads, (λ e. other (sym at.first ∙ e)), refl)

-- ---- their texts

octet_one : (n : ℕ) → n < 256 → IsOneWord (decimal n)
octet_one n h = plain_one (decimal n) (decimal_plain n (omega (arith, h))) (decimal_nonempty n (omega (arith, h)))

octet_is : (max n : ℕ) → max < 256 → n ≤ max → IsNumberText max (decimal n) n
octet_is max n low few = (numbers max (omega (arith, low)) n few).0

octet_other : (n : ℕ) → n < 256 → decimal n ≢ generic_mark
octet_other n h = plain_other (decimal n) (decimal_plain n (omega (arith, h)))

labels_fit : (ls : List (List ℕ)) (rest : List ℕ) → IsOctets (labels_wire ls ++ rest) → AllByRecursion IsOctets ls
labels_fit [] rest h = tt
labels_fit (l ∷ ls) rest h =
    let whole : label_wire l ++ (labels_wire ls ++ rest) ≡ labels_wire (l ∷ ls) ++ rest = sym (append_assoc (label_wire l) (labels_wire ls) rest) in
    let parts = octets_parts l (labels_wire ls ++ rest) (λ i. subst IsOctets (sym whole) h (suc i)) in
    (parts.0, labels_fit ls rest parts.1)

pub wire_labels_fit : (ls : List (List ℕ)) → IsOctets (wire ls) → AllByRecursion IsOctets ls
wire_labels_fit ls h = labels_fit ls (0 ∷ []) h

-- A gateway or a relay is one word, and read as its octets.
pub end_back : (origin : Option NameValue) (type : ℕ) (own text : List ℕ) → IsOctets own → PrintsEnd type own text → IsOneWord text × IsGatewayEnd origin type text own
end_back origin type own text h (inl (t, none, e)) = rw e (plain_one (codes ".") refl (omega arith), inl (t, refl, none))
end_back origin type own text h (inr (inl (t, four, e))) =
    let a : Ipv4Addr = record { octets = own } in
    let shape = dotted (slice_index own 0) (slice_index own 1) (slice_index own 2) (slice_index own 3) (h 0) (h 1) (h 2) (h 3) in
    let plain : all_plain (ipv4_text own) ≡ true = shape.0 in
    rw e (plain_one (ipv4_text own) plain shape.1, inr (inl (t, a, IsDotted-ipv4_text own four h, refl)))
end_back origin type own text h (inr (inr (inl (t, sixteen, e)))) =
    let segments = segments_of own in
    let a : Ipv6Addr = record { segments = segments } in
    let (eight, same) = halves own 8 h sixteen in
    let fits = segments_fit own h in
    let plain : all_plain (ipv6_text segments) ≡ true = bare_open (ipv6_text segments) (ipv6_bare segments fits) in
    let is = IsColonHex-ipv6_text segments eight fits in
    rw e (plain_one (ipv6_text segments) plain (ipv6_some a is), inr (inr (inl (t, a, is, same))))
end_back origin type own text h (inr (inr (inr (t, labels, are, e, f)))) =
    let fit = wire_labels_fit labels (subst IsOctets e h) in
    rw f (name_one labels are fit, inr (inr (inr (t, labels, name_is origin labels are fit, e))))

pub end_type : (type : ℕ) (own text : List ℕ) → PrintsEnd type own text → type ≤ 3
end_type type own text (inl is) = omega (arith, is.0)
end_type type own text (inr (inl is)) = omega (arith, is.0)
end_type type own text (inr (inr (inl is))) = omega (arith, is.0)
end_type type own text (inr (inr (inr is))) = omega (arith, is.0)

-- it is a plain word, or a name
pub end_word : (type : ℕ) (own text : List ℕ) → IsOctets own → PrintsEnd type own text
    → (all_plain text ≡ true) ⊎ ((labels : List (List ℕ)) × AllByRecursion IsOctets labels × (text ≡ full_name_text labels))
end_word type own text h (inl (t, none, e)) = inl (rw e refl)
end_word type own text h (inr (inl (t, four, e))) =
    let plain : all_plain (ipv4_text own) ≡ true = (dotted (slice_index own 0) (slice_index own 1) (slice_index own 2) (slice_index own 3) (h 0) (h 1) (h 2) (h 3)).0 in
    inl (ap all_plain e ∙ plain)
end_word type own text h (inr (inr (inl (t, sixteen, e)))) =
    inl (ap all_plain e ∙ bare_open (ipv6_text (segments_of own)) (ipv6_bare (segments_of own) (segments_fit own h)))
end_word type own text h (inr (inr (inr (t, labels, are, e, f)))) = inr (labels, wire_labels_fit labels (subst IsOctets e h), f)

-- ---- each shape

gateway_back : (own : List ℕ) → IsOctets own → FieldComesBack (kinds.Shaped Gateway) (of_shape Gateway own)
gateway_back own h origin way printed rest (type, algorithm, gateway, shown, e, print, p) end =
    let fit : IsOctets (type ∷ algorithm ∷ gateway) = subst IsOctets e h in
    let (one, is) = end_back origin type gateway shown (λ i. fit (suc (suc i))) print in
    let first : type < 256 = fit 0 in
    let second : algorithm < 256 = fit 1 in
    by_three origin way (kinds.Shaped Gateway) printed (decimal type) (decimal algorithm) shown rest (of_shape Gateway own) refl p (octet_one type first) (octet_one algorithm second) one end.1 (octet_other type first)
    (type, algorithm, gateway, octet_is max_u8 type (omega arith) (omega (arith, first)), octet_is max_u8 algorithm (omega arith) (omega (arith, second)), is, ap (of_shape Gateway) e)

relay_back : (own : List ℕ) → IsOctets own → FieldComesBack (kinds.Shaped Relay) (of_shape Relay own)
relay_back own h origin way printed rest (flag, type, relay, shown, bit, e, print, p) end =
    let fit : IsOctets ((relay_flag * flag + type) ∷ relay) = subst IsOctets e h in
    let (one, is) = end_back origin type relay shown (λ i. fit (suc i)) print in
    let few = end_type type relay shown print in
    let first : flag < 256 = omega (arith, bit) in
    let second : type < 256 = omega (arith, few) in
    by_three origin way (kinds.Shaped Relay) printed (decimal flag) (decimal type) shown rest (of_shape Relay own) refl p (octet_one flag first) (octet_one type second) one end.1 (octet_other flag first)
    (flag, type, relay, octet_is 1 flag (omega arith) bit, octet_is max_u8 type (omega arith) (omega (arith, few)), is, ap (of_shape Relay) e)

hex_some : (own : List ℕ) → 1 ≤ length own → 0 < length (hex_text own)
hex_some own some = omega (arith, some, length-encode_with upper_digits own)

key_some : (own : List ℕ) → 1 ≤ length own → 0 < length (base64_text own)
key_some [] some = absurd (omega (arith, some))
key_some (o ∷ own) some = base64_some o own

identity_back : (own : List ℕ) → IsOctets own → FieldComesBack (kinds.Shaped HostIdentity) (of_shape HostIdentity own)
identity_back own h origin way printed rest (algorithm, tag, key, are, e, p) end =
    let fit : IsOctets (identity_wire algorithm tag key) = subst IsOctets e h in
    let octet : algorithm < 256 = fit 1 in
    let parts = octets_parts tag key (λ i. fit (suc (suc (suc (suc i))))) in
    let hex = hex_plain tag parts.0 in
    let base64 = base64_open key parts.1 in
    by_three origin way (kinds.Shaped HostIdentity) printed (decimal algorithm) (hex_text tag) (base64_text key) rest (of_shape HostIdentity own) refl p (octet_one algorithm octet)
    (plain_one (hex_text tag) hex (hex_some tag are.some_tag)) (plain_one (base64_text key) base64 (key_some key are.some_key)) end.1 (octet_other algorithm octet) (
      algorithm,
      tag,
      key,
      octet_is max_u8 algorithm (omega arith) (omega (arith, octet)),
      (hexadecimal tag parts.0).0,
      (parts.1, refl),
      are,
      ap (of_shape HostIdentity) e,
    )

location_field : (own : List ℕ) → IsOctets own → FieldComesBack (kinds.Shaped Location) (of_shape Location own)
location_field own h origin way printed rest print end =
    let none : rest ≡ [] = end.0 refl in
    let is = location_back own printed h print in
    rw (none, append-nil) ((is.0, refl), is.1, is.2)

pub shaped_back : (shape : Shape) (own : List ℕ) → IsOctets own → FieldComesBack (kinds.Shaped shape) (of_shape shape own)
shaped_back Location own h origin way printed rest print end = location_field own h origin way printed rest print end
shaped_back Gateway own h origin way printed rest print end = gateway_back own h origin way printed rest print end
shaped_back Relay own h origin way printed rest print end = relay_back own h origin way printed rest print end
shaped_back HostIdentity own h origin way printed rest print end = identity_back own h origin way printed rest print end
shaped_back AddressSuffix own h origin way printed rest print end = absurd print
