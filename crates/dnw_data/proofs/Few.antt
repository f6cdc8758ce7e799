-- A bitmap lists no more types than its octets have bits.
use Rattle.std.proofs.Common.{◌≡◌, ℕ, zero, suc, ◌+◌, ◌*◌, ◌≤◌, true, List, [], ◌∷◌, ◌++◌, length, map, take, drop, Contains, subst, arith}
use Rattle.std.specs.List.{flat_map}
use Rattle.std.specs.Set.{is_member}
use Rattle.std.specs.Ordering.{eq_by_cmp}
use Rattle.std.proofs.lemmas.List.{length-append, length-map, length-take, length-drop}
use Rattle.std.proofs.lemmas.Map.Keys.{IsDistinct-from_sorted}
use Rattle.std.proofs.lemmas.Map.Made.{is_member-Decides, length-le_from_is_member}
use Rattle.dnw_base.specs.declared.record_type.RecordType.{RecordType}
use Rattle.dnw_base.specs.RecordTypes.{type_cmp, type_of_code}
use Rattle.dnw_base.specs.Inside.RecordTypeLaws.{types_tied, types_equal}
use Rattle.dnw_data.specs.TypeSets.{IsSetOf, Window, bit_codes, bits, bitmap_types, octet_codes, octets_codes, window, window_codes, windows_codes, windows_of, windows_within}
use Rattle.dnw_base.specs.Limits.{max_window}
use Rattle.dnw_data.specs.SetLaws.{BitmapsListFew}

few_bit : (first octet bit : ℕ) → length (bit_codes first octet bit) ≤ 1
few_bit first octet bit = grind arith

few_bits : (first octet : ℕ) (ns : List ℕ) → length (flat_map (bit_codes first octet) ns) ≤ length ns
few_bits first octet [] = omega arith
few_bits first octet (n ∷ ns) =
    omega (arith, few_bit first octet n, few_bits first octet ns, length-append (bit_codes first octet n) (flat_map (bit_codes first octet) ns))

few_octets : (first : ℕ) (octets : List ℕ) → length (octets_codes first octets) ≤ 8 * length octets
few_octets first [] = omega arith
few_octets first (octet ∷ octets) =
    omega (arith, few_bits first octet bits, few_octets (first + 8) octets, length-append (octet_codes first octet) (octets_codes (first + 8) octets))

few_window : (w : Window) → length (window_codes w) ≤ 8 * length w.octets
few_window w = omega (arith, few_octets (256 * w.number) (take max_window w.octets), length-take max_window w.octets)

few_windows : (n : ℕ) (bytes : List ℕ) → length (windows_codes (windows_within n bytes)) ≤ 8 * length bytes
few_windows zero bytes = omega arith
few_windows (suc n) [] = omega arith
few_windows (suc n) (number ∷ []) = omega arith
few_windows (suc n) (number ∷ len ∷ bytes) =
    let first = window number (take len bytes) in
    let others = windows_within n (drop len bytes) in
    omega (
      arith,
      few_window first,
      few_windows n (drop len bytes),
      length-append (window_codes first) (windows_codes others),
      length-take len bytes,
      length-drop len bytes,
    )

few_types : (listed types : List RecordType) → IsSetOf listed types → length types ≤ length listed
few_types listed types set =
    let same : (a b : RecordType) → (eq_by_cmp type_cmp a b ≡ true → a ≡ b) × (a ≡ b → eq_by_cmp type_cmp a b ≡ true) = λ a b.
    (types_tied a b, λ e. let P : RecordType → Type 0 = λ x. eq_by_cmp type_cmp a x ≡ true in subst P e (types_equal.refl a)) in
    length-le_from_is_member types_equal types listed (IsDistinct-from_sorted type_cmp types set.ascending)
    (λ kind h. (is_member-Decides same listed kind).1 (set.no_others kind ((is_member-Decides same types kind).0 h)))

pub bitmaps_list_few : BitmapsListFew
unfolding windows_of
bitmaps_list_few bitmap types set =
    let codes = windows_codes (windows_of bitmap) in
    omega (arith, few_types (bitmap_types bitmap) types set, length-map codes type_of_code, few_windows (length bitmap) bitmap)
