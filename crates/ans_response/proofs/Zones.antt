-- The same name, and names in a zone, by their labels.
use Rattle.std.proofs.Common.{◌≡◌, ◌-◌, ◌&&◌, Bool, false, true, List, ℕ, length, take, drop, map, refl, sym, ap, ◌∙◌, subst}
use Rattle.std.proofs.lemmas.List.{length-map, take-append-drop}
use Rattle.std.proofs.lemmas.List.Prefix.{end_rest}
use Rattle.std.specs.Char.{to_ascii_lowercase}
use Rattle.std.specs.Cmp.{both_ways}
use Rattle.dns_names_wire.specs.OrderLaws.{name_eq_equiv}
use Rattle.dns_names_wire.specs.Words.{IsZoneOf, NameValue, is_in, is_same, lower, name_eq, name_eq_parts, name_ties}
use Rattle.ans_response.specs.Meanings.{is_strictly_below}

first_true : (a b : Bool) → (a && b) ≡ true → a ≡ true
first_true true b h = refl
first_true false b h = h

qualified : List (List ℕ) → NameValue
qualified labels = record { is_fqdn = true; labels = labels }

lower_if_same : (x y : List (List ℕ)) → is_same x y ≡ true → lower x ≡ lower y
unfolding is_same qualified
lower_if_same x y h = (name_eq_parts (qualified x) (qualified y) (name_ties (qualified x) (qualified y) ∙ h)).1

same_if_lower : (x y : List (List ℕ)) → lower x ≡ lower y → is_same x y ≡ true
unfolding is_same qualified
same_if_lower x y h =
    let itself : name_eq (qualified y) (qualified y) ≡ true = name_eq_equiv.refl (qualified y) in
    sym (name_ties (qualified x) (qualified y)) ∙ rw h itself

pub zone_if_in : (zone name : List (List ℕ)) → is_in zone name ≡ true → IsZoneOf zone name
unfolding is_in
zone_if_in zone name h =
    let left = length name - length zone in
    (take left name, drop left name, sym (take-append-drop left name), lower_if_same (drop left name) zone h)

in_if_zone : (zone name : List (List ℕ)) → IsZoneOf zone name → is_in zone name ≡ true
unfolding is_in
in_if_zone zone name (front, rest, is, same) =
    let long : length rest ≡ length zone = sym (length-map rest (map to_ascii_lowercase)) ∙ (ap length same ∙ length-map zone (map to_ascii_lowercase)) in
    let last : drop (length name - length zone) name ≡ rest =
    subst (λ n. drop (length name - n) name ≡ rest) long (end_rest name rest front is) in
    rw last (same_if_lower rest zone same)

-- a test says whether a name is in a zone
pub in_by_test : (b : Bool) (zone name : List (List ℕ)) → (b ≡ true → IsZoneOf zone name) × (IsZoneOf zone name → b ≡ true) → b ≡ is_in zone name
in_by_test b zone name test = both_ways b (is_in zone name) (λ yes. in_if_zone zone name (test.0 yes)) (λ yes. test.1 (zone_if_in zone name yes))

-- The last labels of a name that is below another one are those of that one.
pub last_lower : (above name : List (List ℕ)) → is_strictly_below above name ≡ true → lower (drop (length name - length above) name) ≡ lower above
unfolding is_strictly_below is_in
last_lower above name h = lower_if_same (drop (length name - length above) name) above (first_true _ _ h)
