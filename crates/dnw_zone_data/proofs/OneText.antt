-- A text is one list of octets at most.
use Rattle.std.proofs.Common.{◌≡◌, ℕ, List, [], ◌∷◌, ◌+◌, ◌*◌, Ok, refl, sym, ap, ◌∙◌, subst, arith, inl, inr}
use Rattle.std.specs.Prelude.{Option, flat_map}
use Rattle.std.specs.Net.Addr.{ipv4_octets, ipv6_segments, octets_of}
use Rattle.std.specs.declared.net.Ipv4Addr.{Ipv4Addr}
use Rattle.std.specs.declared.net.Ipv6Addr.{Ipv6Addr}
use Rattle.std.proofs.NetLemmas.Theorems.{IsIpv4Text_unique, IsIpv6Text_unique}
use Rattle.std.proofs.lemmas.Bool.{cases_Bool}
use Rattle.std.proofs.lemmas.Option.{same_Some}
use Rattle.dnw_base.specs.Names.{NameValue, label_wire, wire}
use Rattle.dnw_base.specs.declared.record_type.RecordType.{RecordType}
use Rattle.dnw_base.specs.DnsClasses.{class_code}
use Rattle.dnw_base.specs.RecordTypes.{type_code as code_of}
use Rattle.dnw_data.specs.declared.kind.Kind.{Kind}
use Rattle.dnw_data.specs.declared.kind.Kind.TheVariants as kinds
use Rattle.dnw_data.specs.declared.kind.ListKind.TheVariants as lists
use Rattle.dnw_data.specs.declared.kind.Shape.{Shape}
use Rattle.dnw_data.specs.declared.kind.Shape.TheVariants.{Location, Gateway, Relay, HostIdentity}
use Rattle.dnw_data.specs.declared.kind.Shown.{Shown}
use Rattle.dnw_data.specs.declared.kind.Shown.TheVariants.{Text, Tag, Hex, Base32Hex, Base64, MaybeBase64, Nsap, Ports, OldTypes}
use Rattle.dnw_data.specs.Table.{fields_of}
use Rattle.dnw_data.specs.Values.{FieldValue, name, u8, u16, u32, ipv4, ipv6, type_code, time, counted, octets, texts, types, params, names, items}
use Rattle.dnw_zone_values.specs.Mnemonics.{IsNumberOrName, algorithm_named, begins_with_digit, certificate_type_named, protocol_named, scheme_named, service_named}
use Rattle.dnw_zone_values.specs.Octets.{IsOctets, IsHexText, IsBase64Text, IsSaltText}
use Rattle.dnw_zone_values.specs.Strings.{IsTextWithin}
use Rattle.dnw_zone_values.proofs.Calendar.{times_agree}
use Rattle.dnw_zone_values.proofs.ComeBack.{base64}
use Rattle.dnw_zone_values.specs.Params.{ParamValue, in_key_order, params_wire}
use Rattle.dnw_zone_data.proofs.LocationWords.{one_location}
use Rattle.dnw_zone_data.proofs.ParamWalks.{one_params}
use Rattle.dnw_data.specs.FieldWires.{field_wire}
use Rattle.dnw_zone_data.proofs.LocatorsBack.{one_locator_field, one_node_number, one_nsap_field}
use Rattle.dnw_zone_data.proofs.PrefixListsBack.{one_prefixes}
use Rattle.dnw_zone_data.specs.declared.extent.Extent.{Extent}
use Rattle.dnw_zone_data.specs.declared.extent.Extent.TheVariants.{One, Three, All}
use Rattle.dnw_zone_data.specs.declared.number_form.NumberForm.{NumberForm}
use Rattle.dnw_zone_data.specs.declared.number_form.NumberForm.TheVariants.{Decimal, Period, Algorithm, CertificateType, Scheme, Protocol, Optional}
use Rattle.dnw_zone_data.specs.NumberForms.{first_form, number_forms, other_forms, IsNumberIn}
use Rattle.dnw_zone_data.specs.Gateways.{AreShape, IsGatewayEnd, IsGateway, IsIdentity, IsRelay, IsShape, identity_wire, of_shape, relay_flag}
use Rattle.dnw_zone_data.specs.NameLists.{AreNameWords}
use Rattle.dnw_zone_data.specs.StringLists.{AreStringWords}
use Rattle.dnw_zone_data.specs.Bitmaps.{with_numbers, AreBits, AreBitWords, IsBitWord}
use Rattle.dnw_zone_data.specs.TypeLists.{AreTypeWords}
use Rattle.dnw_zone_data.specs.Words.{after_spaces, after_word, second_word_on, without_spaces, word}
use Rattle.dnw_zone_data.specs.DataTexts.{IsPlainData, IsTextOf, text_kinds}
use Rattle.dnw_zone_data.specs.Generic.{IsGeneric}
use Rattle.dnw_zone_data.specs.DataTextLaws.{DataAreUnambiguous, PrintedDataAreSame}
use Rattle.dnw_zone_data.specs.Parsing.{extent_of, AreAll, AreThree, AreFieldTexts, IsIdentifierField, IsNumber, IsWord, ReadsBy, ReadsField, SpellsShown, eui48, eui64}
use Rattle.dnw_zone_data.proofs.DataBack.{back, data_fit}
use Rattle.dnw_zone_data.proofs.GenericText.{one_generic}
use Rattle.dnw_zone_data.proofs.OneBitmap.{back_fit, front_fit, one_bitmap}

-- ---- words

pub one_hex : (text a b : List ℕ) → IsHexText text a → IsHexText text b → a ≡ b
one_hex text a b x y = let e : Ok a ≡ Ok b = sym x ∙ y in cc

pub one_base64 : (text a b : List ℕ) → IsBase64Text text a → IsBase64Text text b → a ≡ b
one_base64 text a b x y = (base64 b y.0).1 a (subst (λ (t : List ℕ). IsBase64Text t a) y.1 x)

one_within : (max : ℕ) (text a b : List ℕ) → IsTextWithin max text a → IsTextWithin max text b → a ≡ b
one_within max text a b x y = same_Some a b (sym x.0 ∙ y.0)

one_salt : (text a b : List ℕ) → IsSaltText text a → IsSaltText text b → a ≡ b
one_salt text a b (inl x) (inl y) = x.1 ∙ sym y.1
one_salt text a b (inl x) (inr y) = let no = rw x.0 at y.0 in cc
one_salt text a b (inr x) (inl y) = let no = rw y.0 at x.0 in cc
one_salt text a b (inr x) (inr y) = one_hex text a b x.0 y.0

one_spelled : (shown : Shown) (text a b : List ℕ) → SpellsShown shown text a → SpellsShown shown text b → a ≡ b
one_spelled Text text a b x y = one_within 255 text a b x y
one_spelled Tag text a b x y = sym x.0 ∙ y.0
one_spelled Hex text a b x y = one_salt text a b x y
one_spelled Base32Hex text a b x y = same_Some a b (sym x.1 ∙ y.1)
one_spelled Base64 text a b x y = absurd x
one_spelled MaybeBase64 text a b x y = absurd x
one_spelled Nsap text a b x y = absurd x
one_spelled Ports text a b x y = absurd x
one_spelled OldTypes text a b x y = absurd x

one_or_name : (named : List ℕ → Option ℕ) (max : ℕ) (text : List ℕ) (m n : ℕ) → IsNumberOrName named max text m → IsNumberOrName named max text n → m ≡ n
one_or_name named max text m n x y = elim (cases_Bool (begins_with_digit text)) [
  | inl digit ↦ let a = rw digit at x in let b = rw digit at y in sym a.1 ∙ b.1
  | inr letter ↦ let a = rw letter at x in let b = rw letter at y in same_Some m n (sym a.0 ∙ b.0)
]

one_in_form : (way : NumberForm) (max : ℕ) (text : List ℕ) (m n : ℕ) → IsNumberIn way max text m → IsNumberIn way max text n → m ≡ n
one_in_form Decimal max text m n x y = sym x.1 ∙ y.1
one_in_form Period max text m n x y = same_Some m n (sym x.0.0 ∙ y.0.0)
one_in_form Algorithm max text m n x y = one_or_name algorithm_named max text m n x y
one_in_form CertificateType max text m n x y = one_or_name certificate_type_named max text m n x y
one_in_form Scheme max text m n x y = one_or_name scheme_named max text m n x y
one_in_form Protocol max text m n x y = one_or_name protocol_named max text m n x y
one_in_form Optional max text m n x y = sym x.1 ∙ y.1

one_number : (way : NumberForm) (max : ℕ) (field : ℕ → FieldValue) (text : List ℕ) (v w : FieldValue) → IsNumber way max field text v → IsNumber way max field text w → v ≡ w
one_number way max field text v w x y = x.2 ∙ ap field (one_in_form way max text x.0 y.0 x.1 y.1) ∙ sym y.2

one_identifier : (size : ℕ) (field : List ℕ → FieldValue) (text : List ℕ) (v w : FieldValue) → IsIdentifierField size field text v → IsIdentifierField size field text w → v ≡ w
one_identifier size field text v w x y = x.3 ∙ ap field (same_Some x.0 y.0 (sym x.1 ∙ y.1)) ∙ sym y.3

one_word_lem : (origin : Option NameValue) (way : NumberForm) (kind : Kind) (text : List ℕ) (v w : FieldValue) → IsWord origin way kind text v → IsWord origin way kind text w → v ≡ w
one_word_lem origin way (kinds.Name form) text v w x y = x.2 ∙ ap name (same_Some x.0 y.0 (sym x.1 ∙ y.1)) ∙ sym y.2
one_word_lem origin way kinds.Ipv4 text v w x y = x.2 ∙ ap (λ (a : Ipv4Addr). ipv4 (ipv4_octets a)) (IsIpv4Text_unique text x.0 y.0 x.1 y.1) ∙ sym y.2
one_word_lem origin way kinds.Ipv6 text v w x y = x.2 ∙ ap (λ (a : Ipv6Addr). ipv6 (ipv6_segments a)) (IsIpv6Text_unique text x.0 y.0 x.1 y.1) ∙ sym y.2
one_word_lem origin way kinds.TypeCode text v w x y = x.2 ∙ ap type_code (same_Some x.0 y.0 (sym x.1.1 ∙ y.1.1)) ∙ sym y.2
one_word_lem origin way kinds.U48 text v w x y = one_identifier 6 eui48 text v w x y
one_word_lem origin way kinds.U64 text v w x y = one_identifier 8 eui64 text v w x y
one_word_lem origin way (kinds.Counted shown) text v w x y = x.2 ∙ ap counted (one_spelled shown text x.0 y.0 x.1 y.1) ∙ sym y.2
one_word_lem origin way (kinds.Octets Text) text v w x y = x.2 ∙ ap octets (one_within 65535 text x.0 y.0 x.1 y.1) ∙ sym y.2
one_word_lem origin way (kinds.Octets Nsap) text v w x y = one_nsap_field text v w x y
one_word_lem origin way (kinds.Octets shown) text v w x y = absurd x
one_word_lem origin way kinds.U8 text v w x y = one_number way 255 u8 text v w x y
one_word_lem origin way kinds.U16 text v w x y = one_number way 65535 u16 text v w x y
one_word_lem origin way kinds.U32 text v w x y = one_number way 4294967295 u32 text v w x y
one_word_lem origin way kinds.Time text v w x y = x.2 ∙ ap time (times_agree text x.0 y.0 x.1 y.1) ∙ sym y.2
one_word_lem origin way kinds.LongTime text v w x y = absurd x
one_word_lem origin way kinds.ChaosAddress text v w x y = absurd x
one_word_lem origin way kinds.Locator text v w x y = one_locator_field text v w x y
one_word_lem origin way kinds.NodeNumber text v w x y = one_node_number text v w x y
one_word_lem origin way (kinds.LongCounted shown) text v w x y = absurd x
one_word_lem origin way (kinds.Shaped shape) text v w x y = absurd x
one_word_lem origin way (kinds.List list) text v w x y = absurd x

-- ---- all words

one_strings : (left : List ℕ) (a b : List (List ℕ)) → AreStringWords left a → AreStringWords left b → a ≡ b
one_strings left [] [] x y = refl
one_strings left [] (t ∷ b) x y = absurd (y.0 x)
one_strings left (s ∷ a) [] x y = absurd (x.0 y)
one_strings left (s ∷ a) (t ∷ b) x y =
    ap (λ (own : List ℕ). own ∷ a) (one_within 255 (word (after_spaces left)) s t x.1 y.1) ∙ ap (λ (rest : List (List ℕ)). t ∷ rest) (one_strings (after_word (after_spaces left)) a b x.2 y.2)

one_types : (left : List ℕ) (a b : List RecordType) → AreTypeWords left a → AreTypeWords left b → a ≡ b
one_types left [] [] x y = refl
one_types left [] (t ∷ b) x y = absurd (y.0 x)
one_types left (s ∷ a) [] x y = absurd (x.0 y)
one_types left (s ∷ a) (t ∷ b) x y =
    ap (λ (record_type : RecordType). record_type ∷ a) (same_Some s t (sym x.1.1 ∙ y.1.1)) ∙ ap (λ (rest : List RecordType). t ∷ rest) (one_types (after_word (after_spaces left)) a b x.2 y.2)

one_names : (origin : Option NameValue) (left : List ℕ) (a b : List (List (List ℕ))) → AreNameWords origin left a → AreNameWords origin left b → a ≡ b
one_names origin left [] [] x y = refl
one_names origin left [] (t ∷ b) x y = absurd (y.0 x)
one_names origin left (s ∷ a) [] x y = absurd (x.0 y)
one_names origin left (s ∷ a) (t ∷ b) x y =
    ap (λ (labels : List (List ℕ)). labels ∷ a) (same_Some s t (sym x.1 ∙ y.1)) ∙ ap (λ (rest : List (List (List ℕ))). t ∷ rest) (one_names origin (after_word (after_spaces left)) a b x.2 y.2)

one_bit : (shown : Shown) (text : List ℕ) (m n : ℕ) → IsBitWord shown text m → IsBitWord shown text n → m ≡ n
one_bit Ports text m n x y = one_or_name service_named 65535 text m n x y
one_bit OldTypes text m n (a, x, e, _, _) (b, y, f, _, _) = e ∙ ap code_of (same_Some a b (sym x.1 ∙ y.1)) ∙ sym f
one_bit shown text m n x y = absurd x

one_bit_words : (shown : Shown) (left a b : List ℕ) → AreBitWords shown left a → AreBitWords shown left b → a ≡ b
one_bit_words shown left [] [] x y = refl
one_bit_words shown left [] (n ∷ b) x y = absurd (y.0 x)
one_bit_words shown left (m ∷ a) [] x y = absurd (x.0 y)
one_bit_words shown left (m ∷ a) (n ∷ b) x y =
    ap (λ (k : ℕ). k ∷ a) (one_bit shown (word (after_spaces left)) m n x.1 y.1) ∙ ap (λ (rest : List ℕ). n ∷ rest) (one_bit_words shown (after_word (after_spaces left)) a b x.2 y.2)

one_bits : (shown : Shown) (left a b : List ℕ) → AreBits shown left a → AreBits shown left b → a ≡ b
one_bits shown left a b x y = x.2 ∙ ap (λ (ns : List ℕ). with_numbers ns []) (one_bit_words shown left x.0 y.0 x.1 y.1) ∙ sym y.2

types_fit : (v : FieldValue) (own : List ℕ) → v ≡ types (items lists.Types own) → IsOctets (field_wire v) → IsOctets own
types_fit v own e h = subst (λ (z : FieldValue). IsOctets (field_wire z)) e h

one_whole : (shape : Shape) (left : List ℕ) (v w : FieldValue) → AreShape shape left v → AreShape shape left w → v ≡ w
one_whole Location left v w x y = one_location left v w x y
one_whole shape left v w x y = absurd x

one_list : (origin : Option NameValue) (way : NumberForm) (kind : Kind) (left : List ℕ) (v w : FieldValue) → IsOctets (field_wire v) → IsOctets (field_wire w) → AreAll origin way kind left v → AreAll origin way kind left w → v ≡ w
one_list origin way (kinds.Octets Hex) left v w hv hw x y = x.2 ∙ ap octets (one_hex (without_spaces left) x.0 y.0 x.1.0 y.1.0) ∙ sym y.2
one_list origin way (kinds.Octets Base64) left v w hv hw x y = x.2 ∙ ap octets (one_base64 (without_spaces left) x.0 y.0 x.1.0 y.1.0) ∙ sym y.2
one_list origin way (kinds.Octets Ports) left v w hv hw x y = x.2 ∙ ap octets (one_bits Ports left x.0 y.0 x.1 y.1) ∙ sym y.2
one_list origin way (kinds.Octets OldTypes) left v w hv hw x y = x.2 ∙ ap octets (one_bits OldTypes left x.0 y.0 x.1 y.1) ∙ sym y.2
one_list origin way (kinds.Octets shown) left v w hv hw x y = absurd x.1.0
one_list origin way (kinds.List lists.Texts) left v w hv hw x y =
    let same = one_strings left (x.0 ∷ x.1) (y.0 ∷ y.1) x.2 y.2 in
    x.4 ∙ ap (λ (own : List (List ℕ)). texts (items lists.Texts (flat_map label_wire own))) same ∙ sym y.4
one_list origin way (kinds.List lists.Types) left v w hv hw (a, own, words, are, e) (b, other, others, also, f) =
    let same = one_types left a b words others in
    e ∙ ap (λ (xs : List ℕ). types (items lists.Types xs)) (one_bitmap b own other (types_fit v own e hv) (types_fit w other f hw) (rw same at are) also) ∙ sym f
one_list origin way (kinds.List lists.Params) left v w hv hw (a, own, words, is, keeps, e) (b, other, others, also, kept, f) =
    let same : own ≡ other = same_Some own other (sym is ∙ ap (in_key_order []) (one_params left a b words others) ∙ also) in
    e ∙ ap (λ (ps : List ParamValue). params (items lists.Params (params_wire ps))) same ∙ sym f
one_list origin way (kinds.List lists.Names) left v w hv hw (a, words, e) (b, others, f) =
    e ∙ ap (λ (listed : List (List (List ℕ))). names (items lists.Names (flat_map wire listed))) (one_names origin left a b words others) ∙ sym f
one_list origin way (kinds.Shaped shape) left v w hv hw x y = one_whole shape left v w x y
one_list origin way (kinds.List lists.Prefixes) left v w hv hw x y = one_prefixes left v w x y
one_list origin way kind left v w hv hw x y = absurd x

-- ---- three words

one_end : (origin : Option NameValue) (type : ℕ) (text a b : List ℕ) → IsGatewayEnd origin type text a → IsGatewayEnd origin type text b → a ≡ b
one_end origin type text a b (inl x) (inl y) = x.2 ∙ sym y.2
one_end origin type text a b (inl x) (inr (inl y)) = absurd (omega (arith, x.0, y.0))
one_end origin type text a b (inl x) (inr (inr (inl y))) = absurd (omega (arith, x.0, y.0))
one_end origin type text a b (inl x) (inr (inr (inr y))) = absurd (omega (arith, x.0, y.0))
one_end origin type text a b (inr (inl x)) (inl y) = absurd (omega (arith, x.0, y.0))
one_end origin type text a b (inr (inl x)) (inr (inl y)) = x.3 ∙ ap ipv4_octets (IsIpv4Text_unique text x.1 y.1 x.2 y.2) ∙ sym y.3
one_end origin type text a b (inr (inl x)) (inr (inr (inl y))) = absurd (omega (arith, x.0, y.0))
one_end origin type text a b (inr (inl x)) (inr (inr (inr y))) = absurd (omega (arith, x.0, y.0))
one_end origin type text a b (inr (inr (inl x))) (inl y) = absurd (omega (arith, x.0, y.0))
one_end origin type text a b (inr (inr (inl x))) (inr (inl y)) = absurd (omega (arith, x.0, y.0))
one_end origin type text a b (inr (inr (inl x))) (inr (inr (inl y))) =
    x.3 ∙ ap (λ (address : Ipv6Addr). octets_of (ipv6_segments address)) (IsIpv6Text_unique text x.1 y.1 x.2 y.2) ∙ sym y.3
one_end origin type text a b (inr (inr (inl x))) (inr (inr (inr y))) = absurd (omega (arith, x.0, y.0))
one_end origin type text a b (inr (inr (inr x))) (inl y) = absurd (omega (arith, x.0, y.0))
one_end origin type text a b (inr (inr (inr x))) (inr (inl y)) = absurd (omega (arith, x.0, y.0))
one_end origin type text a b (inr (inr (inr x))) (inr (inr (inl y))) = absurd (omega (arith, x.0, y.0))
one_end origin type text a b (inr (inr (inr x))) (inr (inr (inr y))) = x.3 ∙ ap wire (same_Some x.1 y.1 (sym x.2 ∙ y.2)) ∙ sym y.3

one_gateway : (origin : Option NameValue) (first second third : List ℕ) (v w : FieldValue) → IsGateway origin first second third v → IsGateway origin first second third w → v ≡ w
one_gateway origin first second third v w (t, g, own, ht, hg, end, e) (u, k, other, hu, hk, also, f) =
    let type : t ≡ u = sym ht.1 ∙ hu.1 in
    let algorithm : g ≡ k = sym hg.1 ∙ hk.1 in
    let same : own ≡ other = one_end origin u third own other (subst (λ (n : ℕ). IsGatewayEnd origin n third own) type end) also in
    let octets : t ∷ g ∷ own ≡ u ∷ k ∷ other = rw (type, algorithm, same) refl in
    e ∙ ap (of_shape Gateway) octets ∙ sym f

one_relay : (origin : Option NameValue) (first second third : List ℕ) (v w : FieldValue) → IsRelay origin first second third v → IsRelay origin first second third w → v ≡ w
one_relay origin first second third v w (d, t, own, hd, ht, end, e) (c, u, other, hc, hu, also, f) =
    let flag : d ≡ c = sym hd.1 ∙ hc.1 in
    let type : t ≡ u = sym ht.1 ∙ hu.1 in
    let same : own ≡ other = one_end origin u third own other (subst (λ (n : ℕ). IsGatewayEnd origin n third own) type end) also in
    let octets : (relay_flag * d + t) ∷ own ≡ (relay_flag * c + u) ∷ other = rw (flag, type, same) refl in
    e ∙ ap (of_shape Relay) octets ∙ sym f

one_identity : (first second third : List ℕ) (v w : FieldValue) → IsIdentity first second third v → IsIdentity first second third w → v ≡ w
one_identity first second third v w (g, tag, key, hg, hex, base, are, e) (k, tag2, key2, hk, hex2, base2, are2, f) =
    let algorithm : g ≡ k = sym hg.1 ∙ hk.1 in
    let tags : tag ≡ tag2 = one_hex second tag tag2 hex hex2 in
    let keys : key ≡ key2 = one_base64 third key key2 base base2 in
    let octets : identity_wire g tag key ≡ identity_wire k tag2 key2 = rw (algorithm, tags, keys) refl in
    e ∙ ap (of_shape HostIdentity) octets ∙ sym f

one_shape : (origin : Option NameValue) (shape : Shape) (first second third : List ℕ) (v w : FieldValue) → IsShape origin shape first second third v → IsShape origin shape first second third w → v ≡ w
one_shape origin Gateway first second third v w x y = one_gateway origin first second third v w x y
one_shape origin Relay first second third v w x y = one_relay origin first second third v w x y
one_shape origin HostIdentity first second third v w x y = one_identity first second third v w x y
one_shape origin shape first second third v w x y = absurd x

one_three : (origin : Option NameValue) (kind : Kind) (first second third : List ℕ) (v w : FieldValue) → AreThree origin kind first second third v → AreThree origin kind first second third w → v ≡ w
one_three origin (kinds.Shaped shape) first second third v w x y = one_shape origin shape first second third v w x y
one_three origin kind first second third v w x y = absurd x

-- ---- fields

one_by : (extent : Extent) (origin : Option NameValue) (way : NumberForm) (kind : Kind) (left : List ℕ) (v w : FieldValue) (r s : List ℕ) → IsOctets (field_wire v)
    → IsOctets (field_wire w) → ReadsBy extent origin way kind left v r → ReadsBy extent origin way kind left w s → (v ≡ w) × (r ≡ s)
one_by One origin way kind left v w r s hv hw x y = (one_word_lem origin way kind (word left) v w x.0 y.0, x.1 ∙ sym y.1)
one_by Three origin way kind left v w r s hv hw x y = (one_three origin kind (word left) (word (second_word_on left)) (word (second_word_on (second_word_on left))) v w x.0 y.0, x.1 ∙ sym y.1)
one_by All origin way kind left v w r s hv hw x y = (one_list origin way kind left v w hv hw x.0 y.0, x.1 ∙ sym y.1)

one_field : (origin : Option NameValue) (way : NumberForm) (kind : Kind) (left : List ℕ) (v w : FieldValue) (r s : List ℕ) → IsOctets (field_wire v) → IsOctets (field_wire w)
    → ReadsField origin way kind left v r → ReadsField origin way kind left w s → (v ≡ w) × (r ≡ s)
one_field origin way kind left v w r s hv hw x y = one_by (extent_of kind) origin way kind left v w r s hv hw x y

one_fields : (origin : Option NameValue) (ways : List NumberForm) (kinds : List Kind) (left : List ℕ) (vs ws : List FieldValue) → IsOctets (flat_map field_wire vs) → IsOctets (flat_map field_wire ws)
    → AreFieldTexts origin ways kinds left vs → AreFieldTexts origin ways kinds left ws → vs ≡ ws
one_fields origin ways [] left [] [] hv hw x y = refl
one_fields origin ways [] left [] (w ∷ ws) hv hw x y = absurd y
one_fields origin ways [] left (v ∷ vs) ws hv hw x y = absurd x
one_fields origin ways (kind ∷ kinds) left [] ws hv hw x y = absurd x
one_fields origin ways (kind ∷ kinds) left (v ∷ vs) [] hv hw x y = absurd y
one_fields origin ways (kind ∷ kinds) left (v ∷ vs) (w ∷ ws) hv hw (rest, reads, more) (other, also, others) =
    let first = one_field origin (first_form ways) kind (after_spaces left) v w rest other (front_fit (field_wire v) (flat_map field_wire vs) hv) (front_fit (field_wire w) (flat_map field_wire ws) hw) reads also in
    let same = one_fields origin (other_forms ways) kinds other vs ws (back_fit (field_wire v) (flat_map field_wire vs) hv) (back_fit (field_wire w) (flat_map field_wire ws) hw)
    (subst (λ (xs : List ℕ). AreFieldTexts origin (other_forms ways) kinds xs vs) first.1 more) others in
    ap (λ (z : FieldValue). z ∷ vs) first.0 ∙ ap (λ (zs : List FieldValue). w ∷ zs) same

pub unambiguous : DataAreUnambiguous
unambiguous origin ways fields text own other h k (inl x) (inl y) = one_generic text own other x.0 y.0
unambiguous origin ways fields text own other h k (inl x) (inr y) = absurd (y.0 x.0.0)
unambiguous origin ways fields text own other h k (inr x) (inl y) = absurd (x.0 y.0.0)
unambiguous origin ways fields text own other h k (inr x) (inr y) =
    let vs = x.2 in
    let ws = y.2 in
    x.4 ∙ ap (λ (zs : List FieldValue). flat_map field_wire zs) (one_fields origin ways (text_kinds fields text) text vs ws (subst IsOctets x.4 h) (subst IsOctets y.4 k) x.3 y.3) ∙ sym y.4

same_generic : (origin : Option NameValue) (ways : List NumberForm) (fields : List ℕ → List Kind) (text own other : List ℕ) → IsGeneric text own → IsTextOf origin ways fields text other → own ≡ other
same_generic origin ways fields text own other h (inl is) = one_generic text own other h is.0
same_generic origin ways fields text own other h (inr is) = absurd (is.0 h.0)

pub printed : PrintedDataAreSame
printed origin r text own h print fit is =
    let (plain, are, done) = back origin r text h print in
    elim done [
      | inl many ↦ inr (plain, are, many)
      | inr (inl shown) ↦ inl (subst (λ (xs : List ℕ). IsPlainData r xs) (same_generic origin (number_forms (code_of r.record_type)) (fields_of (class_code r.class) (code_of r.record_type)) text plain own shown is) are)
      | inr (inr also) ↦ inl (subst (λ (xs : List ℕ). IsPlainData r xs) (unambiguous origin (number_forms (code_of r.record_type)) (fields_of (class_code r.class) (code_of r.record_type)) text plain own (data_fit r plain h are) fit also is) are)
    ]
