-- Names in a zone, in canonical order.
use Rattle.std.proofs.Common.{◌≡◌, ℕ, ◌-◌, Bool, true, false, List, [], ◌∷◌, ◌++◌, length, take, drop, map, reverse, refl, sym, ap, ◌∙◌, subst, rules}
use Rattle.std.proofs.lemmas.Cmp.{lists_total, nat_list_cmp_total, on_total}
use Rattle.std.proofs.lemmas.List.{length-map, take-append-drop}
use Rattle.std.proofs.lemmas.List.MinMax.{ranks_by}
use Rattle.std.proofs.lemmas.List.Prefix.{end_rest}
use Rattle.std.specs.Char.{to_ascii_lowercase}
use Rattle.std.specs.Cmp.{IsStrictWeakOrder, IsTotalOrder, both_ways}
use Rattle.std.specs.Ordering.{is_eq, is_lt}
use Rattle.dns_names_wire.specs.Order.{canonical}
use Rattle.dns_names_wire.specs.OrderLaws.{name_eq_equiv}
use Rattle.dns_names_wire.specs.Words.{IsZoneOf, KeysCompare, NameValue, ZonesBegin, is_in, is_same, labels_cmp, lower, name_eq, name_eq_parts, name_ties, octets_cmp, sort_key}
use Rattle.ans_store.proofs.Octets.{begins_between, not_before_front}

pub labels_total : IsTotalOrder labels_cmp
labels_total = on_total canonical (lists_total nat_list_cmp_total)

-- Names are ranked: neither before the other is an equivalence.
pub names_rank : IsStrictWeakOrder (λ x y. is_lt (labels_cmp x y))
names_rank = ranks_by labels_total (λ x. x)

-- ---- the same name, and names in a zone, by their labels

qualified : List (List ℕ) → NameValue
qualified labels = record { is_fqdn = true; labels = labels }

pub lower_if_same : (x y : List (List ℕ)) → is_same x y ≡ true → lower x ≡ lower y
unfolding is_same qualified
lower_if_same x y h = (name_eq_parts (qualified x) (qualified y) (name_ties (qualified x) (qualified y) ∙ h)).1

same_if_lower : (x y : List (List ℕ)) → lower x ≡ lower y → is_same x y ≡ true
unfolding is_same qualified
same_if_lower x y h =
    let itself : name_eq (qualified y) (qualified y) ≡ true = name_eq_equiv.refl (qualified y) in
    sym (name_ties (qualified x) (qualified y)) ∙ rw h itself

pub zone_if_in : (zone name : List (List ℕ)) → is_in zone name ≡ true → IsZoneOf zone name
unfolding is_in
zone_if_in zone name h =
    let left = length name - length zone in
    (take left name, drop left name, sym (take-append-drop left name), lower_if_same (drop left name) zone h)

pub in_if_zone : (zone name : List (List ℕ)) → IsZoneOf zone name → is_in zone name ≡ true
unfolding is_in
in_if_zone zone name (front, rest, is, same) =
    let long : length rest ≡ length zone = sym (length-map rest (map to_ascii_lowercase)) ∙ (ap length same ∙ length-map zone (map to_ascii_lowercase)) in
    let last : drop (length name - length zone) name ≡ rest =
    subst (λ n. drop (length name - n) name ≡ rest) long (end_rest name rest front is) in
    rw last (same_if_lower rest zone same)

-- a name is in the zone of its own name
pub in_if_same : (zone name : List (List ℕ)) → is_same name zone ≡ true → is_in zone name ≡ true
in_if_same zone name h = in_if_zone zone name ([], name, refl, lower_if_same name zone h)

-- a test says whether a name is in a zone
pub in_by_test : (b : Bool) (zone name : List (List ℕ)) → (b ≡ true → IsZoneOf zone name) × (IsZoneOf zone name → b ≡ true) → b ≡ is_in zone name
in_by_test b zone name test = both_ways b (is_in zone name) (λ yes. in_if_zone zone name (test.0 yes)) (λ yes. test.1 (zone_if_in zone name yes))

-- ---- names in a zone are next to one another

module _ (compare : KeysCompare) (begin : ZonesBegin) where
  key : (zone name : List (List ℕ)) → is_in zone name ≡ true → (rest : List ℕ) × (sort_key name ≡ sort_key zone ++ rest)
  key zone name h = (begin zone name).1 (zone_if_in zone name h)

  -- A name in a zone is not before the zone's.
  pub not_before_zone : (zone name : List (List ℕ)) → is_in zone name ≡ true → is_lt (labels_cmp name zone) ≡ false
  not_before_zone zone name h =
      let (rest, is) = key zone name h in
      subst (λ o. is_lt o ≡ false) (ap (λ k. octets_cmp k (sort_key zone)) (sym is) ∙ compare name zone) (not_before_front (sort_key zone) rest)

  -- A name between a zone's and one in the zone is in the zone.
  pub in_between : (zone name other : List (List ℕ)) → is_in zone name ≡ true → is_lt (labels_cmp other zone) ≡ false
      → is_lt (labels_cmp name other) ≡ false → is_in zone other ≡ true
  in_between zone name other h low high =
      let (rest, is) = key zone name h in
      let first : is_lt (octets_cmp (sort_key other) (sort_key zone)) ≡ false = rw (compare other zone) low in
      let second : is_lt (octets_cmp (sort_key zone ++ rest) (sort_key other)) ≡ false = rw (sym is, compare name other) high in
      let (more, begins) = begins_between (sort_key zone) (sort_key other) rest first second in
      in_if_zone zone other ((begin zone other).0 (more, begins))
