-- Names that are the same but for ASCII case, and names in others.
use Rattle.std.proofs.Common.{◌≡◌, ℕ, Bool, true, true≢false, List, [], ◌∷◌, ◌++◌, length, take, drop, map, refl, sym, ap, ◌∙◌, inl, inr}
use Rattle.std.proofs.lemmas.Bool.{or_cases, or_left, or_right}
use Rattle.std.proofs.lemmas.List.{append_assoc, drop_at, length-map, take-append-drop}
use Rattle.std.specs.Char.{to_ascii_lowercase}
use Rattle.std.specs.Cmp.{both_ways}
use Rattle.std.specs.List.{drop-map, list_any}
use Rattle.dns_names_wire.specs.OrderLaws.{name_eq_equiv}
use Rattle.dns_names_wire.specs.Words.{NameValue, RecordValue, is_in, is_same, lower, name_eq, name_ties}
use Rattle.ans_store.proofs.Names.{in_if_zone, lower_if_same, zone_if_in}

qualified : List (List ℕ) → NameValue
qualified labels = record { is_fqdn = true; labels = labels }

pub same_if_lower : (x y : List (List ℕ)) → lower x ≡ lower y → is_same x y ≡ true
unfolding is_same qualified
same_if_lower x y h =
    let itself : name_eq (qualified y) (qualified y) ≡ true = name_eq_equiv.refl (qualified y) in
    sym (name_ties (qualified x) (qualified y)) ∙ rw h itself

pub same_back : (x y : List (List ℕ)) → is_same x y ≡ true → is_same y x ≡ true
same_back x y h = same_if_lower y x (sym (lower_if_same x y h))

-- ---- names that are the same stand for one another

pub length_alike : (x y : List (List ℕ)) → lower x ≡ lower y → length x ≡ length y
length_alike x y h = sym (length-map x (map to_ascii_lowercase)) ∙ (ap length h ∙ length-map y (map to_ascii_lowercase))

drop_alike : (n : ℕ) (x y : List (List ℕ)) → lower x ≡ lower y → lower (drop n x) ≡ lower (drop n y)
drop_alike n x y h = sym (drop-map (map to_ascii_lowercase) n x) ∙ (ap (drop n) h ∙ drop-map (map to_ascii_lowercase) n y)

pub left_alike : (x y z : List (List ℕ)) → lower x ≡ lower y → is_same x z ≡ is_same y z
left_alike x y z h =
    both_ways (is_same x z) (is_same y z) (λ yes. same_if_lower y z (sym h ∙ lower_if_same x z yes)) (λ yes. same_if_lower x z (h ∙ lower_if_same y z yes))

pub right_alike : (x y z : List (List ℕ)) → lower x ≡ lower y → is_same z x ≡ is_same z y
right_alike x y z h =
    both_ways (is_same z x) (is_same z y) (λ yes. same_if_lower z y (lower_if_same z x yes ∙ h)) (λ yes. same_if_lower z x (lower_if_same z y yes ∙ sym h))

in_other : (x y z : List (List ℕ)) → lower x ≡ lower y → is_in x z ≡ true → is_in y z ≡ true
in_other x y z h inside =
    let (front, rest, is, same) = zone_if_in x z inside in
    in_if_zone y z (front, rest, is, same ∙ h)

pub in_alike : (x y z : List (List ℕ)) → lower x ≡ lower y → is_in x z ≡ is_in y z
in_alike x y z h = both_ways (is_in x z) (is_in y z) (in_other x y z h) (in_other y x z (sym h))

-- ---- names in names

pub in_last : (front above : List (List ℕ)) → is_in above (front ++ above) ≡ true
in_last front above = in_if_zone above (front ++ above) (front, above, refl, refl)

-- the last labels of a name that is the same as one which ends in `zone` are those of `zone`
rest_in : (zone rest front last : List (List ℕ)) → lower last ≡ lower (front ++ rest) → lower rest ≡ lower zone → lower (drop (length front) last) ≡ lower zone
rest_in zone rest front last same is =
    drop_alike (length front) last (front ++ rest) same ∙ (ap lower (drop_at front rest (length front) refl) ∙ is)

pub in_trans : (x y z : List (List ℕ)) → is_in x y ≡ true → is_in y z ≡ true → is_in x z ≡ true
in_trans x y z a b =
    let (front, rest, is, same) = zone_if_in x y a in
    let (more, last, ends, alike) = zone_if_in y z b in
    let n = length front in
    let parts : z ≡ (more ++ take n last) ++ drop n last =
    ends ∙ (ap (λ (ls : List (List ℕ)). more ++ ls) (sym (take-append-drop n last)) ∙ sym (append_assoc more (take n last) (drop n last))) in
    in_if_zone x z (more ++ take n last, drop n last, parts, rest_in x rest front last (alike ∙ ap lower is) same)

-- ---- owners of records

-- One of the records passes: its owner owns records.
pub owner_of : (p : RecordValue → Bool) (zs : List RecordValue) → list_any p zs ≡ true
    → (r : RecordValue) × (p r ≡ true) × (list_any (λ z. is_same z.owner r.owner) zs ≡ true)
owner_of p [] h = absurd (true≢false (sym h))
owner_of p (z ∷ zs) h = elim (or_cases (p z) (list_any p zs) h) [
  | inl passes ↦ (z, passes, or_left (is_same z.owner z.owner) (list_any (λ y. is_same y.owner z.owner) zs) (same_if_lower z.owner z.owner refl))
  | inr later ↦
      let (r, passes, there) = owner_of p zs later in
      (r, passes, or_right (is_same z.owner r.owner) (list_any (λ y. is_same y.owner r.owner) zs) there)
]

pub any_more : (p q : RecordValue → Bool) (zs : List RecordValue) → ((z : RecordValue) → q z ≡ true → p z ≡ true) → list_any q zs ≡ true → list_any p zs ≡ true
any_more p q [] all h = h
any_more p q (z ∷ zs) all h = elim (or_cases (q z) (list_any q zs) h) [
  | inl passes ↦ or_left (p z) (list_any p zs) (all z passes)
  | inr later ↦ or_right (p z) (list_any p zs) (any_more p q zs all later)
]
