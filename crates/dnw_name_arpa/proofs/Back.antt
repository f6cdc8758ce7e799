-- Names of prefixes are read as the prefixes, and so are their texts; names of addresses are read as the addresses.
use Rattle.std.proofs.Common.{◌≡◌, ℕ, zero, suc, ◌+◌, ◌*◌, ◌^◌, ◌<◌, ◌≤◌, ◌/◌, ◌%◌, true, List, [], ◌∷◌, ◌++◌, length, map, reverse, slice_index, Ok, Err, refl, sym, ap, ◌∙◌, subst, arith}
use Rattle.std.specs.List.{AllByRecursion}
use Rattle.std.specs.Net.Addr.{ipv4_octets, ipv6_segments}
use Rattle.std.specs.Str.{chars}
use Rattle.std.specs.declared.net.ip_addr.IpAddr.{IpAddr}
use Rattle.std.specs.declared.net.ip_addr.IpAddr.TheVariants.{V4, V6}
use Rattle.std.proofs.lemmas.List.{reverse-append, reverse-reverse, length-map, length-reverse, map-append}
use Rattle.dnw_base.specs.Labels.{IsLabel}
use Rattle.dnw_base.specs.Names.{AreLabels, encoded_size}
use Rattle.dnw_name_text.specs.AsciiText.{IsLabelText, name_from_text, name_text}
use Rattle.dnw_name_text.proofs.ReadBack.{read_back}
use Rattle.dnw_name_arpa.specs.NetTexts.{net_addr, ip_size}
use Rattle.dnw_name_arpa.specs.Arpa.{ArpaPrefix, IsArpaPrefix, arpa, arpa_labels, arpa_name, arpa_prefix, family_label, nibbles, ip_prefix, most_values, padded, reverse_name, value_bits, value_label}
use Rattle.dnw_name_arpa.specs.ArpaLaws.{IsIpAddr, AddressesArePrefixes, AddressesComeBack}
use Rattle.dnw_name_arpa.specs.ArpaNets.{IsNetOf}
use Rattle.dnw_name_arpa.specs.declared.reading.Family.{Family}
use Rattle.dnw_name_arpa.specs.declared.reading.Family.TheVariants.{Ipv4, Ipv6}
use Rattle.dnw_name_form.specs.LabelOrder.{label_eq}
use Rattle.dnw_name_arpa.proofs.Prefixes.{names_give}
use Rattle.dnw_name_arpa.proofs.Values.{all_push}
use Rattle.dnw_name_arpa.proofs.ValueLabels.{values_back, value_labels, value_texts, value_sizes}

-- the labels from the last one
map_reverse : (f : ℕ → List ℕ) (xs : List ℕ) → reverse (map f xs) ≡ map f (reverse xs)
map_reverse f [] = refl
map_reverse f (x ∷ xs) =
    reverse-append (f x ∷ []) (map f xs) ∙ ap (λ (ls : List (List ℕ)). ls ++ f x ∷ []) (map_reverse f xs)
    ∙ sym (ap (map f) (reverse-append (x ∷ []) xs) ∙ map-append f (reverse xs) (x ∷ []))

from_end : (p : ArpaPrefix) → reverse (arpa_labels p) ≡ arpa ∷ family_label p.family ∷ map (value_label p.family) p.values
from_end p =
    reverse-append (map (value_label p.family) (reverse p.values)) (family_label p.family ∷ arpa ∷ [])
    ∙ ap (λ (ls : List (List ℕ)). arpa ∷ family_label p.family ∷ ls)
    (map_reverse (value_label p.family) (reverse p.values) ∙ ap (map (value_label p.family)) (reverse-reverse p.values))

family_itself : (family : Family) → label_eq (family_label family) (family_label family) ≡ true
family_itself Ipv4 = refl
family_itself Ipv6 = refl

pub prefixes_come_back : (p : ArpaPrefix) → IsArpaPrefix p → arpa_prefix (arpa_name p) ≡ Ok p
prefixes_come_back p h =
    (names_give (arpa_name p) p).1 (record {
      fqdn = refl;
      last = arpa;
      second = family_label p.family;
      others = map (value_label p.family) p.values;
      order = from_end p;
      below_arpa = refl;
      of_family = family_itself p.family;
      few = omega (arith, h.few, length-map p.values (value_label p.family));
      each = values_back p.family p.values h.fit;
    })

-- texts
all_reverse : (P : ℕ → Type 0) (vs : List ℕ) → AllByRecursion P vs → AllByRecursion P (reverse vs)
all_reverse P [] h = tt
all_reverse P (v ∷ vs) h = subst (AllByRecursion P) (sym (reverse-append (v ∷ []) vs)) (all_push P (reverse vs) v (all_reverse P vs h.1) h.0)

-- the values from the last to the first
reversed_fit : (p : ArpaPrefix) → IsArpaPrefix p → AllByRecursion (λ v. v < 2 ^ value_bits p.family) (reverse p.values)
reversed_fit p h = all_reverse (λ v. v < 2 ^ value_bits p.family) p.values h.fit

tail_labels : (family : Family) → AllByRecursion IsLabel (family_label family ∷ arpa ∷ [])
tail_labels Ipv4 = (record { not_empty = omega arith; not_long = omega arith }, (record { not_empty = omega arith; not_long = omega arith }, tt))
tail_labels Ipv6 = (record { not_empty = omega arith; not_long = omega arith }, (record { not_empty = omega arith; not_long = omega arith }, tt))

tail_texts : (family : Family) → AllByRecursion IsLabelText (family_label family ∷ arpa ∷ [])
tail_texts Ipv4 = (refl, (refl, tt))
tail_texts Ipv6 = (refl, (refl, tt))

tail_size : (family : Family) → encoded_size (family_label family ∷ arpa ∷ []) ≤ 20
tail_size Ipv4 = omega arith
tail_size Ipv6 = omega arith

few_values : (family : Family) → most_values family ≤ 32
few_values Ipv4 = omega arith
few_values Ipv6 = omega arith

are_labels : (p : ArpaPrefix) → IsArpaPrefix p → AreLabels (arpa_labels p)
are_labels p h = record {
  each = value_labels p.family (reverse p.values) _ (reversed_fit p h) (tail_labels p.family);
  fit = omega (
    arith,
    value_sizes p.family (reverse p.values) (family_label p.family ∷ arpa ∷ []) (reversed_fit p h),
    length-reverse p.values,
    tail_size p.family,
    few_values p.family,
    h.few,
  );
}

pub texts_come_back : (p : ArpaPrefix) → IsArpaPrefix p → name_from_text (chars (name_text (arpa_name p))) ≡ Ok (arpa_name p)
texts_come_back p h = read_back (arpa_name p) (are_labels p h) (value_texts p.family (reverse p.values) _ (reversed_fit p h) (tail_texts p.family))

-- addresses
all_below : (n : ℕ) (xs : List ℕ) → ((k : ℕ) → slice_index xs k < n) → AllByRecursion (λ x. x < n) xs
all_below n [] h = tt
all_below n (x ∷ xs) h = (h 0, all_below n xs (λ k. h (suc k)))

halves_fit : (segments : List ℕ) → AllByRecursion (λ s. s < 2 ^ 16) segments → AllByRecursion (λ v. v < 2 ^ 4) (nibbles segments)
halves_fit [] h = tt
halves_fit (s ∷ segments) h =
    let small : s < 65536 = h.0 in
    (omega arith, (omega arith, (omega arith, (omega arith, halves_fit segments h.1))))

halves_length : (segments : List ℕ) → length (nibbles segments) ≡ 4 * length segments
halves_length [] = refl
halves_length (s ∷ segments) = omega (arith, halves_length segments)

pub addresses_are_prefixes : AddressesArePrefixes
addresses_are_prefixes (V4 a) h = record { few = omega (arith, h.0); fit = all_below (2 ^ 8) (ipv4_octets a) h.1 }
addresses_are_prefixes (V6 a) h = record {
  few = omega (arith, h.0, halves_length (ipv6_segments a));
  fit = halves_fit (ipv6_segments a) (all_below (2 ^ 16) (ipv6_segments a) h.1);
}

whole : (ip : IpAddr) → IsIpAddr ip → length (ip_prefix ip).values ≡ most_values (ip_prefix ip).family
whole (V4 a) h = h.0
whole (V6 a) h = omega (arith, h.0, halves_length (ipv6_segments a))

padded_whole : (n : ℕ) (vs : List ℕ) → length vs ≡ n → padded n vs ≡ vs
padded_whole zero [] e = refl
padded_whole zero (v ∷ vs) e = absurd (omega arith)
padded_whole (suc n) [] e = absurd (omega arith)
padded_whole (suc n) (v ∷ vs) e = ap (λ (ws : List ℕ). v ∷ ws) (padded_whole n vs (omega arith))

segment_is : (s : ℕ) → s ≡ 4096 * (s / 4096) + 256 * (s / 256 % 16) + 16 * (s / 16 % 16) + s % 16
segment_is s = omega arith

same_segment : (s t : ℕ) → s / 4096 ≡ t / 4096 → s / 256 % 16 ≡ t / 256 % 16 → s / 16 % 16 ≡ t / 16 % 16 → s % 16 ≡ t % 16 → s ≡ t
same_segment s t a b c d = omega (arith, segment_is s, segment_is t)

halves_injective : (xs ys : List ℕ) → nibbles xs ≡ nibbles ys → xs ≡ ys
halves_injective [] [] e = refl
halves_injective [] (y ∷ ys) e = absurd (cc)
halves_injective (x ∷ xs) [] e = absurd (cc)
halves_injective (x ∷ xs) (y ∷ ys) e = grind (arith, same_segment x y, halves_injective xs ys)

same_ip : (a b : IpAddr) → ip_prefix a ≡ ip_prefix b → a ≡ b
same_ip (V4 a) (V4 b) e = let same = ap (λ (p : ArpaPrefix). p.values) e in λ i. V4 (record { octets = same i })
same_ip (V4 a) (V6 b) e = let other : Ipv4 ≡ Ipv6 = ap (λ (p : ArpaPrefix). p.family) e in absurd cc
same_ip (V6 a) (V4 b) e = let other : Ipv6 ≡ Ipv4 = ap (λ (p : ArpaPrefix). p.family) e in absurd cc
same_ip (V6 a) (V6 b) e =
    let same = halves_injective (ipv6_segments a) (ipv6_segments b) (ap (λ (p : ArpaPrefix). p.values) e) in
    λ i. V6 (record { segments = same i })

all_bits : (ip : IpAddr) → value_bits (ip_prefix ip).family * most_values (ip_prefix ip).family ≡ ip_size ip
all_bits (V4 a) = refl
all_bits (V6 a) = refl

pub addresses_come_back : AddressesComeBack
addresses_come_back ip h (Ok net) (p, reads, of) =
    let back : arpa_prefix (reverse_name ip) ≡ Ok (ip_prefix ip) = prefixes_come_back (ip_prefix ip) (addresses_are_prefixes ip h) in
    let same : p ≡ ip_prefix ip = cc in
    let own : IsNetOf (ip_prefix ip) net = subst (λ (q : ArpaPrefix). IsNetOf q net) same of in
    let size = whole ip h in
    let filled = ap (λ (vs : List ℕ). record { family = (ip_prefix ip).family; values = vs }) (padded_whole (most_values (ip_prefix ip).family) (ip_prefix ip).values size) in (
      net,
      refl,
      same_ip (net_addr net) ip (own.addr ∙ filled),
      own.bits ∙ ap (λ (n : ℕ). value_bits (ip_prefix ip).family * n) size ∙ all_bits ip,
    )
addresses_come_back ip h (Err e) (fault, fails, reports) =
    let back : arpa_prefix (reverse_name ip) ≡ Ok (ip_prefix ip) = prefixes_come_back (ip_prefix ip) (addresses_are_prefixes ip h) in
    absurd cc
