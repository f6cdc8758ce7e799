-- Each field that is read from octets round-trips.
use Rattle.std.proofs.Common.{◌≡◌, ℕ, zero, suc, ◌+◌, ◌-◌, ◌≤◌, List, [], ◌∷◌, ◌++◌, length, drop, sym, ap, ◌∙◌, subst, arith, length-drop}
use Rattle.std.specs.Prelude.{max, Option}
use Rattle.std.specs.Int.{w16, w32, w64, from_be_bytes, to_be_bytes}
use Rattle.std.specs.List.{AllByRecursion}
use Rattle.std.specs.Net.Addr.{segments_of}
use Rattle.std.specs.declared.net.Ipv4Addr.{Ipv4Addr}
use Rattle.std.specs.declared.net.Ipv6Addr.{Ipv6Addr}
use Rattle.std.proofs.lemmas.List.{length-take-le}
use Rattle.dnw_base.specs.Decoder.{Decoder, HasLeft}
use Rattle.dnw_base.specs.Labels.{IsLabel}
use Rattle.dnw_base.specs.Names.{labels_wire}
use Rattle.dnw_base.specs.RecordTypes.{type_of_code}
use Rattle.dnw_name_read.specs.Reading.{Reads, zero_octet, label, pointer}
use Rattle.dnw_name_read.specs.ReadingLaws.{AreBytes}
use Rattle.dnw_name_read.proofs.Counts.{NameAt_labels}
use Rattle.dnw_data.specs.declared.kind.Kind.{Kind}
use Rattle.dnw_data.specs.declared.kind.Kind.TheVariants as kinds
use Rattle.dnw_data.specs.declared.kind.ListKind.TheVariants as lists
use Rattle.dnw_data.specs.declared.kind.Shown.{Shown}
use Rattle.dnw_data.specs.declared.kind.Shown.TheVariants.{Text, Tag, Hex, Base32Hex, Base64, MaybeBase64, Nsap, Ports, OldTypes}
use Rattle.dnw_data.specs.Fields.{own_at, size_at, TakesField}
use Rattle.dnw_data.specs.Values.{FieldValue, name, u16, u48, counted, long_counted, octets, long_counted_size}
use Rattle.dnw_data.proofs.Shaping.{long_is}
use Rattle.dnw_zone_values.specs.Octets.{IsOctets}
use Rattle.dnw_zone_values.specs.Strings.{IsString}
use Rattle.dnw_zone_values.proofs.ParamTextsBack.{drop_fit, halves, octets_fit, segments_fit, take_fit}
use Rattle.dnw_data.specs.FieldWires.{field_wire}
use Rattle.dnw_zone_data.specs.DataTextLaws.{FieldComesBack}
use Rattle.dnw_zone_data.proofs.ListedBack.{locator_field, node_field, nsap_field, prefixes_field}
use Rattle.dnw_zone_data.proofs.BitmapsBack.{ports_back, old_types_back}
use Rattle.dnw_zone_data.proofs.FieldsBack.{first, u8_back, u16_back, u32_back, time_back, type_back, ipv4_back, string_back, tag_back, salt_back, hash_back, octets_back, text_back, strings_back}
use Rattle.dnw_zone_data.proofs.GatewaysBack.{shaped_back}
use Rattle.dnw_zone_data.proofs.NameListsBack.{names_back}
use Rattle.dnw_zone_data.proofs.NamesBack.{name_back}
use Rattle.dnw_zone_data.proofs.ParamsBack.{params_back}
use Rattle.dnw_data.proofs.Codes.{code_back}
use Rattle.dnw_zone_data.proofs.TypesBack.{types_back}
use Rattle.dnw_zone_data.proofs.WordsBack.{base64_back, eight_fit, eui48_back, eui64_back, ipv6_back, six_fit}

own_fit : (kind : Kind) (d : Decoder) → AreBytes d.bytes → IsOctets (own_at kind d)
own_fit kind d h = take_fit (d.index + size_at kind d - d.index) (drop d.index d.bytes) (drop_fit d.index d.bytes h)

own_len : (kind : Kind) (d : Decoder) → HasLeft d (size_at kind d) → length (own_at kind d) ≡ size_at kind d
own_len kind d left =
    let n = size_at kind d in
    length-take-le (d.index + n - d.index) (drop d.index d.bytes) (omega (arith, left, length-drop d.index d.bytes)) ∙ omega arith

-- the labels of a name that is read are octets
pub labels_fit : {b : List ℕ} {p s e k : ℕ} {limit : Option ℕ} {ls : List (List ℕ)} → AreBytes b → Reads b p s limit ls e k → AllByRecursion IsOctets ls
labels_fit h (zero_octet w g) = tt
labels_fit {b} {p} h (label c w g one most fit r) = (take_fit _ (drop (p + 1) b) (drop_fit (p + 1) b h), labels_fit h r)
labels_fit h (pointer high low w g least g2 prior r) = labels_fit h r

-- ---- each field round-trips

some : (n : ℕ) → 1 ≤ max 1 n
some zero = omega arith
some (suc n) = omega arith

-- what is after a length octet
pub counted_fit : (shown : Shown) (d : Decoder) → AreBytes d.bytes → HasLeft d (size_at (kinds.Counted shown) d) → IsString (drop 1 (own_at (kinds.Counted shown) d))
counted_fit shown d h left =
    let own = own_at (kinds.Counted shown) d in
    let len = own_len (kinds.Counted shown) d left in
    (drop_fit 1 own (own_fit (kinds.Counted shown) d h), omega (arith, len, length-drop 1 own, drop_fit d.index d.bytes h 0))

long_few : (left : List ℕ) → IsOctets left → long_counted_size left ≤ 65537
long_few [] h = omega arith
long_few (a ∷ []) h = omega arith
long_few (a ∷ b ∷ ls) h = omega (arith, long_is a b ls, h 0, h 1)

-- what is after a length of two octets
pub long_fit : (shown : Shown) (d : Decoder) → AreBytes d.bytes → HasLeft d (size_at (kinds.LongCounted shown) d)
    → length (drop 2 (own_at (kinds.LongCounted shown) d)) ≤ 65535
long_fit shown d h left =
    let own = own_at (kinds.LongCounted shown) d in
    omega (arith, own_len (kinds.LongCounted shown) d left, length-drop 2 own, long_few (drop d.index d.bytes) (drop_fit d.index d.bytes h))

by_value : (kind : Kind) (value own : FieldValue) → value ≡ own → FieldComesBack kind own → FieldComesBack kind value
by_value kind value own e back = subst (FieldComesBack kind) (sym e) back

pub field_back : (kind : Kind) (d : Decoder) (value : FieldValue) (after : Decoder) → AreBytes d.bytes → TakesField kind d value after
    → length (field_wire value) ≤ 65535 → FieldComesBack kind value
field_back (kinds.Name form) d value after h (ls, k, takes, e) few =
    by_value (kinds.Name form) value (name ls) e (name_back form ls (NameAt_labels takes.name) (labels_fit h takes.name.reads))
field_back kinds.U8 d value after h takes few =
    let fit = own_fit kinds.U8 d h in by_value kinds.U8 value _ takes.2 (u8_back _ (omega (arith, fit 0)))
field_back kinds.U16 d value after h takes few =
    let fit = own_fit kinds.U16 d h in by_value kinds.U16 value _ takes.2 (u16_back _ (omega (arith, fit 0, fit 1)))
field_back kinds.U32 d value after h takes few =
    let fit = own_fit kinds.U32 d h in by_value kinds.U32 value _ takes.2 (u32_back _ (omega (arith, fit 0, fit 1, fit 2, fit 3)))
field_back kinds.U48 d value after h takes few =
    let fit = own_fit kinds.U48 d h in by_value kinds.U48 value _ takes.2 (eui48_back _ (omega (arith, fit 0, fit 1, fit 2, fit 3, fit 4, fit 5)))
field_back kinds.U64 d value after h takes few =
    let fit = own_fit kinds.U64 d h in
    by_value kinds.U64 value _ takes.2 (eui64_back _ (omega (arith, fit 0, fit 1, fit 2, fit 3, fit 4, fit 5, fit 6, fit 7)))
field_back kinds.Ipv4 d value after h takes few =
    let a : Ipv4Addr = record { octets = own_at kinds.Ipv4 d } in
    by_value kinds.Ipv4 value _ takes.2 (ipv4_back a (own_len kinds.Ipv4 d takes.0, own_fit kinds.Ipv4 d h))
field_back kinds.Ipv6 d value after h takes few =
    let own = own_at kinds.Ipv6 d in
    let a : Ipv6Addr = record { segments = segments_of own } in
    let fit = own_fit kinds.Ipv6 d h in
    by_value kinds.Ipv6 value _ takes.2 (ipv6_back a ((halves own 8 fit (own_len kinds.Ipv6 d takes.0)).0, segments_fit own fit))
field_back kinds.TypeCode d value after h takes few =
    let n = from_be_bytes w16 (own_at kinds.TypeCode d) in
    let fit = own_fit kinds.TypeCode d h in
    by_value kinds.TypeCode value _ takes.2 (type_back (type_of_code n) (omega (arith, code_back n, fit 0, fit 1), ap type_of_code (code_back n)))
field_back kinds.Time d value after h takes few =
    let fit = own_fit kinds.Time d h in by_value kinds.Time value _ takes.2 (time_back _ (omega (arith, fit 0, fit 1, fit 2, fit 3)))
field_back (kinds.Counted Text) d value after h takes few = by_value (kinds.Counted Text) value _ takes.2 (string_back _ (counted_fit Text d h takes.0))
field_back (kinds.Counted Tag) d value after h takes few = by_value (kinds.Counted Tag) value _ takes.2 (tag_back _)
field_back (kinds.Counted Hex) d value after h takes few = by_value (kinds.Counted Hex) value _ takes.2 (salt_back _ (counted_fit Hex d h takes.0))
field_back (kinds.Counted Base32Hex) d value after h takes few =
    let own = drop 1 (own_at (kinds.Counted Base32Hex) d) in
    let is = counted_fit Base32Hex d h takes.0 in
    by_value (kinds.Counted Base32Hex) value (counted own) takes.2 (λ origin way text rest print end. hash_back own (is.0, print.0, is.1) origin way text rest print end)
field_back (kinds.Counted Base64) d value after h takes few =
    by_value (kinds.Counted Base64) value (counted (drop 1 (own_at (kinds.Counted Base64) d))) takes.2 (λ origin way text rest print end. absurd print)
field_back (kinds.Counted MaybeBase64) d value after h takes few =
    by_value (kinds.Counted MaybeBase64) value (counted (drop 1 (own_at (kinds.Counted MaybeBase64) d))) takes.2 (λ origin way text rest print end. absurd print)
field_back (kinds.Counted Nsap) d value after h takes few =
    by_value (kinds.Counted Nsap) value (counted (drop 1 (own_at (kinds.Counted Nsap) d))) takes.2 (λ origin way text rest print end. absurd print)
field_back (kinds.Counted Ports) d value after h takes few =
    by_value (kinds.Counted Ports) value (counted (drop 1 (own_at (kinds.Counted Ports) d))) takes.2 (λ origin way text rest print end. absurd print)
field_back (kinds.Counted OldTypes) d value after h takes few =
    by_value (kinds.Counted OldTypes) value (counted (drop 1 (own_at (kinds.Counted OldTypes) d))) takes.2 (λ origin way text rest print end. absurd print)
field_back kinds.LongTime d value after h takes few =
    by_value kinds.LongTime value (u48 (from_be_bytes w64 (0 ∷ 0 ∷ own_at kinds.LongTime d))) takes.2 (λ origin way text rest print end. absurd print)
field_back kinds.ChaosAddress d value after h takes few =
    by_value kinds.ChaosAddress value (u16 (from_be_bytes w16 (own_at kinds.ChaosAddress d))) takes.2 (λ origin way text rest print end. absurd print)
field_back kinds.Locator d value after h takes few =
    let fit = own_fit kinds.Locator d h in
    by_value kinds.Locator value _ takes.2 (locator_field _ (omega (arith, fit 0, fit 1, fit 2, fit 3, fit 4, fit 5, fit 6, fit 7)))
field_back kinds.NodeNumber d value after h takes few =
    let fit = own_fit kinds.NodeNumber d h in
    by_value kinds.NodeNumber value _ takes.2 (node_field _ (omega (arith, fit 0, fit 1, fit 2, fit 3, fit 4, fit 5, fit 6, fit 7)))
field_back (kinds.LongCounted shown) d value after h takes few =
    by_value (kinds.LongCounted shown) value (long_counted (drop 2 (own_at (kinds.LongCounted shown) d))) takes.2 (λ origin way text rest print end. absurd print)
field_back (kinds.Shaped shape) d value after h takes few =
    let kind = kinds.Shaped shape in by_value kind value _ takes.2 (shaped_back shape (own_at kind d) (own_fit kind d h))
field_back (kinds.Octets Text) d value after h takes few =
    let short = subst (λ (v : FieldValue). length (field_wire v) ≤ 65535) takes.2 few in
    by_value (kinds.Octets Text) value _ takes.2 (text_back _ (own_fit (kinds.Octets Text) d h, short))
field_back (kinds.Octets Hex) d value after h takes few = by_value (kinds.Octets Hex) value _ takes.2 (octets_back _ (own_fit (kinds.Octets Hex) d h))
field_back (kinds.Octets Base64) d value after h takes few = by_value (kinds.Octets Base64) value _ takes.2 (base64_back _ (own_fit (kinds.Octets Base64) d h))
field_back (kinds.Octets Tag) d value after h takes few =
    by_value (kinds.Octets Tag) value (octets (own_at (kinds.Octets Tag) d)) takes.2 (λ origin way text rest print end. absurd print)
field_back (kinds.Octets Base32Hex) d value after h takes few =
    by_value (kinds.Octets Base32Hex) value (octets (own_at (kinds.Octets Base32Hex) d)) takes.2 (λ origin way text rest print end. absurd print)
field_back (kinds.Octets MaybeBase64) d value after h takes few =
    by_value (kinds.Octets MaybeBase64) value (octets (own_at (kinds.Octets MaybeBase64) d)) takes.2 (λ origin way text rest print end. absurd print)
field_back (kinds.Octets Ports) d value after h takes few = by_value (kinds.Octets Ports) value _ takes.2 (ports_back _ (own_fit (kinds.Octets Ports) d h))
field_back (kinds.Octets OldTypes) d value after h takes few = by_value (kinds.Octets OldTypes) value _ takes.2 (old_types_back _ (own_fit (kinds.Octets OldTypes) d h))
field_back (kinds.Octets Nsap) d value after h takes few = by_value (kinds.Octets Nsap) value _ takes.2 (nsap_field _ (own_fit (kinds.Octets Nsap) d h))
field_back (kinds.List lists.Prefixes) d value after h takes few =
    let kind = kinds.List lists.Prefixes in by_value kind value _ takes.2 (prefixes_field (own_at kind d) (own_fit kind d h))
field_back (kinds.List lists.Names) d value after h takes few =
    let kind = kinds.List lists.Names in by_value kind value _ takes.2 (names_back (own_at kind d) (own_fit kind d h))
field_back (kinds.List lists.Texts) d value after h takes few =
    let kind = kinds.List lists.Texts in
    let short = subst (λ (v : FieldValue). length (field_wire v) ≤ 65535) takes.2 few in
    by_value kind value _ takes.2 (strings_back (own_at kind d) (own_fit kind d h) (omega (arith, own_len kind d takes.0, some (length (drop d.index d.bytes)))) short)
field_back (kinds.List lists.Types) d value after h takes few =
    let kind = kinds.List lists.Types in by_value kind value _ takes.2 (types_back (own_at kind d) (own_fit kind d h) takes.1)
field_back (kinds.List lists.Params) d value after h takes few =
    let kind = kinds.List lists.Params in by_value kind value _ takes.2 (params_back (own_at kind d) (own_fit kind d h) takes.1)

-- ---- the octets of fields

pub both_fit : (a b : List ℕ) → IsOctets a → IsOctets b → IsOctets (a ++ b)
both_fit [] b h k i = k i
both_fit (x ∷ a) b h k zero = h 0
both_fit (x ∷ a) b h k (suc i) = both_fit a b (λ j. h (suc j)) k i

none_fit : IsOctets []
none_fit i = omega arith

pub name_fit : (ls : List (List ℕ)) → AllByRecursion IsLabel ls → AllByRecursion IsOctets ls → IsOctets (labels_wire ls)
name_fit [] are h = none_fit
name_fit (l ∷ ls) are h = both_fit (length l ∷ l) (labels_wire ls) (first (length l) l (omega (arith, are.0.not_long)) h.0) (name_fit ls are.1 h.1)

pub two_fit : (n : ℕ) → IsOctets (to_be_bytes w16 n)
two_fit n zero = omega arith
two_fit n (suc zero) = omega arith
two_fit n (suc (suc i)) = omega arith

pub four_fit : (n : ℕ) → IsOctets (to_be_bytes w32 n)
four_fit n zero = omega arith
four_fit n (suc zero) = omega arith
four_fit n (suc (suc i)) = two_fit n i

by_octets : (value own : FieldValue) → value ≡ own → IsOctets (field_wire own) → IsOctets (field_wire value)
by_octets value own e fit = subst (λ (v : FieldValue). IsOctets (field_wire v)) (sym e) fit

pub wire_fit : (kind : Kind) (d : Decoder) (value : FieldValue) (after : Decoder) → AreBytes d.bytes → TakesField kind d value after → IsOctets (field_wire value)
wire_fit (kinds.Name form) d value after h (ls, k, takes, e) =
    by_octets value (name ls) e (both_fit (labels_wire ls) (0 ∷ []) (name_fit ls (NameAt_labels takes.name).each (labels_fit h takes.name.reads)) (first 0 [] (omega arith) none_fit))
wire_fit kinds.U8 d value after h takes = by_octets value _ takes.2 (first _ [] (own_fit kinds.U8 d h 0) none_fit)
wire_fit kinds.U16 d value after h takes = by_octets value _ takes.2 (two_fit _)
wire_fit kinds.U32 d value after h takes = by_octets value _ takes.2 (four_fit _)
wire_fit kinds.U48 d value after h takes = by_octets value _ takes.2 (six_fit _)
wire_fit kinds.U64 d value after h takes = by_octets value _ takes.2 (eight_fit _)
wire_fit kinds.Ipv4 d value after h takes = by_octets value _ takes.2 (own_fit kinds.Ipv4 d h)
wire_fit kinds.Ipv6 d value after h takes = by_octets value _ takes.2 (octets_fit _ (segments_fit _ (own_fit kinds.Ipv6 d h)))
wire_fit kinds.TypeCode d value after h takes = by_octets value _ takes.2 (two_fit _)
wire_fit kinds.Time d value after h takes = by_octets value _ takes.2 (four_fit _)
wire_fit (kinds.Counted shown) d value after h takes =
    let is = counted_fit shown d h takes.0 in by_octets value _ takes.2 (first _ _ (omega (arith, is.1)) is.0)
wire_fit kinds.LongTime d value after h takes = by_octets value _ takes.2 (six_fit _)
wire_fit kinds.ChaosAddress d value after h takes = by_octets value _ takes.2 (two_fit _)
wire_fit kinds.Locator d value after h takes = by_octets value _ takes.2 (eight_fit _)
wire_fit kinds.NodeNumber d value after h takes = by_octets value _ takes.2 (eight_fit _)
wire_fit (kinds.LongCounted shown) d value after h takes =
    let own = own_at (kinds.LongCounted shown) d in
    by_octets value _ takes.2 (both_fit (to_be_bytes w16 (length (drop 2 own))) (drop 2 own) (two_fit _) (drop_fit 2 own (own_fit (kinds.LongCounted shown) d h)))
wire_fit (kinds.Shaped shape) d value after h takes = by_octets value _ takes.2 (own_fit (kinds.Shaped shape) d h)
wire_fit (kinds.List lists.Prefixes) d value after h takes = by_octets value _ takes.2 (own_fit (kinds.List lists.Prefixes) d h)
wire_fit (kinds.List lists.Names) d value after h takes = by_octets value _ takes.2 (own_fit (kinds.List lists.Names) d h)
wire_fit (kinds.Octets shown) d value after h takes = by_octets value _ takes.2 (own_fit (kinds.Octets shown) d h)
wire_fit (kinds.List lists.Texts) d value after h takes = by_octets value _ takes.2 (own_fit (kinds.List lists.Texts) d h)
wire_fit (kinds.List lists.Types) d value after h takes = by_octets value _ takes.2 (own_fit (kinds.List lists.Types) d h)
wire_fit (kinds.List lists.Params) d value after h takes = by_octets value _ takes.2 (own_fit (kinds.List lists.Params) d h)
