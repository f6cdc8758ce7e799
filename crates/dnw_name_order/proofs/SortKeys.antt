-- Why sort keys compare as names do, begin with the keys of zones, and are short.
use Rattle.std.proofs.Common.{◌≡◌, ◌↔◌, ◌<◌, ◌≤◌, ◌+◌, ◌-◌, ◌*◌, ℕ, zero, suc, Bool, true, false, List, [], ◌∷◌, ◌++◌, length, drop, get_or, reverse, refl, sym, ap, ◌∙◌, append_assoc, length-append, length-drop, true≢false, arith}
use Rattle.std.specs.Char.{to_ascii_lowercase}
use Rattle.std.specs.Cmp.{Equal-is, nat_cmp_is}
use Rattle.std.specs.Cmp.Lexicographic.{bytes_decides, slice_cmp, texts_ties}
use Rattle.std.specs.List.{AllByRecursion, flat_map}
use Rattle.std.specs.Ordering.{bool_cmp, nat_cmp, ordering_then}
use Rattle.std.specs.declared.cmp.Ordering.{Ordering}
use Rattle.std.specs.declared.cmp.Ordering.TheVariants.{Less, Equal, Greater}
use Rattle.std.proofs.lemmas.Grind.{flat_map-append}
use Rattle.std.proofs.lemmas.List.{append-nil, drop-map, drop_at, drop_more, length-map, map-append, reverse-append, reverse-reverse}
use Rattle.dnw_base.specs.Labels.{IsLabel}
use Rattle.dnw_base.specs.Names.{encoded_size, lower}
use Rattle.dnw_base.proofs.Wires.{encoded_size_cons}
use Rattle.dnw_name_form.specs.LabelOrder.{lower_label, octets_cmp}
use Rattle.dnw_name_order.specs.Order.{canonical, IsZoneOf}
use Rattle.dnw_name_order.specs.OrderLaws.{lowered_last}
use Rattle.dnw_name_order.specs.SortKeys.{escape_octet, label_key, sort_key}
use Rattle.dnw_name_order.specs.SortKeyLaws.{EndedKeysCompare, KeysCompare, KeysCompareNames, KeysAreEqual, ZonesBegin, KeysAreShort}
use Rattle.dnw_name_order.proofs.Comparing.{IsZoneOf_last, none_before, some_after, then_assoc}

-- first octets that differ decide
first_less : (x y : ℕ) (us vs : List ℕ) → x < y → octets_cmp (x ∷ us) (y ∷ vs) ≡ Less
first_less x y us vs lt = rw (← nat_cmp_is x y Less lt) refl

first_greater : (x y : ℕ) (us vs : List ℕ) → y < x → octets_cmp (x ∷ us) (y ∷ vs) ≡ Greater
first_greater x y us vs lt = rw (← nat_cmp_is x y Greater lt) refl

-- octets that are escaped decide as they do themselves
escaped_cmp : (x y : ℕ) (us vs : List ℕ) → octets_cmp (escape_octet x ++ us) (escape_octet y ++ vs) ≡ ordering_then (nat_cmp x y) (octets_cmp us vs)
escaped_cmp zero zero us vs = refl
escaped_cmp zero (suc zero) us vs = refl
escaped_cmp zero (suc (suc y)) us vs =
    first_less 1 (suc (suc y)) (1 ∷ us) vs (omega arith) ∙ ap (λ (r : Ordering). ordering_then r (octets_cmp us vs)) (nat_cmp_is zero (suc (suc y)) Less (omega arith))
escaped_cmp (suc zero) zero us vs = refl
escaped_cmp (suc zero) (suc zero) us vs = refl
escaped_cmp (suc zero) (suc (suc y)) us vs =
    first_less 1 (suc (suc y)) (2 ∷ us) vs (omega arith) ∙ ap (λ (r : Ordering). ordering_then r (octets_cmp us vs)) (nat_cmp_is (suc zero) (suc (suc y)) Less (omega arith))
escaped_cmp (suc (suc x)) zero us vs =
    first_greater (suc (suc x)) 1 us (1 ∷ vs) (omega arith) ∙ ap (λ (r : Ordering). ordering_then r (octets_cmp us vs)) (nat_cmp_is (suc (suc x)) zero Greater (omega arith))
escaped_cmp (suc (suc x)) (suc zero) us vs =
    first_greater (suc (suc x)) 1 us (2 ∷ vs) (omega arith) ∙ ap (λ (r : Ordering). ordering_then r (octets_cmp us vs)) (nat_cmp_is (suc (suc x)) (suc zero) Greater (omega arith))
escaped_cmp (suc (suc x)) (suc (suc y)) us vs = refl

-- a label that has ended comes before one that has not
ended_first : (y : ℕ) (us vs : List ℕ) → octets_cmp (0 ∷ us) (escape_octet y ++ vs) ≡ Less
ended_first zero us vs = refl
ended_first (suc zero) us vs = refl
ended_first (suc (suc y)) us vs = first_less 0 (suc (suc y)) us vs (omega arith)

ended_second : (x : ℕ) (us vs : List ℕ) → octets_cmp (escape_octet x ++ us) (0 ∷ vs) ≡ Greater
ended_second zero us vs = refl
ended_second (suc zero) us vs = refl
ended_second (suc (suc x)) us vs = first_greater (suc (suc x)) 0 us vs (omega arith)

-- the first octet of a label stands before the others, and what follows
label_cons : (x : ℕ) (l us : List ℕ) → label_key (x ∷ l) ++ us ≡ escape_octet x ++ (label_key l ++ us)
label_cons x l us = ap (λ (bytes : List ℕ). bytes ++ us) (append_assoc (escape_octet x) (flat_map escape_octet l) (0 ∷ [])) ∙ append_assoc (escape_octet x) (label_key l) us

-- a label decides, and else what follows it
label_then : (l m us vs : List ℕ) → octets_cmp (label_key l ++ us) (label_key m ++ vs) ≡ ordering_then (octets_cmp l m) (octets_cmp us vs)
label_then [] [] us vs = refl
label_then [] (y ∷ m) us vs = ap (octets_cmp (0 ∷ us)) (label_cons y m vs) ∙ ended_first y us (label_key m ++ vs)
label_then (x ∷ l) [] us vs = ap (λ (bytes : List ℕ). octets_cmp bytes (0 ∷ vs)) (label_cons x l us) ∙ ended_second x (label_key l ++ us) vs
label_then (x ∷ l) (y ∷ m) us vs =
    ap (λ (bytes : List ℕ). octets_cmp bytes (label_key (y ∷ m) ++ vs)) (label_cons x l us)
    ∙ ap (octets_cmp (escape_octet x ++ (label_key l ++ us))) (label_cons y m vs)
    ∙ escaped_cmp x y (label_key l ++ us) (label_key m ++ vs)
    ∙ ap (ordering_then (nat_cmp x y)) (label_then l m us vs)
    ∙ sym (then_assoc (nat_cmp x y) (octets_cmp l m) (octets_cmp us vs))

-- a label takes an octet at least
label_takes : (l us : List ℕ) → 0 < length (label_key l ++ us)
label_takes l us = omega (arith, length-append (label_key l) us, length-append (flat_map escape_octet l) (0 ∷ []))

-- the keys of labels in canonical form compare as these do
keys_cmp : (ls ms : List (List ℕ)) → octets_cmp (flat_map label_key ls) (flat_map label_key ms) ≡ slice_cmp octets_cmp ls ms
keys_cmp [] [] = refl
keys_cmp [] (m ∷ ms) = none_before nat_cmp (label_key m ++ flat_map label_key ms) (label_takes m (flat_map label_key ms))
keys_cmp (l ∷ ls) [] = some_after nat_cmp (label_key l ++ flat_map label_key ls) (label_takes l (flat_map label_key ls))
keys_cmp (l ∷ ls) (m ∷ ms) = label_then l m (flat_map label_key ls) (flat_map label_key ms) ∙ ap (ordering_then (octets_cmp l m)) (keys_cmp ls ms)

pub keys_compare : KeysCompare
keys_compare xs ys = keys_cmp (canonical xs) (canonical ys)

-- ---- keys that are ended, and what is after them

abbrev HasOctets : List ℕ → Type 0
HasOctets l = 0 < length l

-- labels in canonical form decide, and then what is after the octet that ends them
ended_cmp : (ls ms : List (List ℕ)) (us vs : List ℕ) → AllByRecursion HasOctets ls → AllByRecursion HasOctets ms
    → octets_cmp (flat_map label_key ls ++ (0 ∷ us)) (flat_map label_key ms ++ (0 ∷ vs)) ≡ ordering_then (slice_cmp octets_cmp ls ms) (octets_cmp us vs)
ended_cmp [] [] us vs some others = refl
ended_cmp [] (m ∷ ms) us vs some others =
    let rest = flat_map label_key ms ++ (0 ∷ vs) in
    ap (octets_cmp (0 ∷ us)) (append_assoc (label_key m) (flat_map label_key ms) (0 ∷ vs)) ∙ label_then [] m us rest
    ∙ ap (λ (r : Ordering). ordering_then r (octets_cmp us rest)) (none_before nat_cmp m others.0)
ended_cmp (l ∷ ls) [] us vs some others =
    let rest = flat_map label_key ls ++ (0 ∷ us) in
    ap (λ (bytes : List ℕ). octets_cmp bytes (0 ∷ vs)) (append_assoc (label_key l) (flat_map label_key ls) (0 ∷ us)) ∙ label_then l [] rest vs
    ∙ ap (λ (r : Ordering). ordering_then r (octets_cmp rest vs)) (some_after nat_cmp l some.0)
ended_cmp (l ∷ ls) (m ∷ ms) us vs some others =
    let own = flat_map label_key ls ++ (0 ∷ us) in
    let rest = flat_map label_key ms ++ (0 ∷ vs) in
    ap (λ (bytes : List ℕ). octets_cmp bytes (flat_map label_key (m ∷ ms) ++ (0 ∷ vs))) (append_assoc (label_key l) (flat_map label_key ls) (0 ∷ us))
    ∙ ap (octets_cmp (label_key l ++ own)) (append_assoc (label_key m) (flat_map label_key ms) (0 ∷ vs))
    ∙ label_then l m own rest
    ∙ ap (ordering_then (octets_cmp l m)) (ended_cmp ls ms us vs some.1 others.1)
    ∙ sym (then_assoc (octets_cmp l m) (slice_cmp octets_cmp ls ms) (octets_cmp us vs))

one_more : (ls : List (List ℕ)) (l : List ℕ) → AllByRecursion HasOctets ls → 0 < length l → AllByRecursion HasOctets (ls ++ (l ∷ []))
one_more [] l each some = (some, tt)
one_more (m ∷ ms) l each some = (each.0, one_more ms l each.1 some)

canonical_front : (front rest : List (List ℕ)) → canonical (front ++ rest) ≡ canonical rest ++ canonical front
canonical_front front rest = ap lower (reverse-append front rest) ∙ map-append lower_label (reverse rest) (reverse front)

have_octets : (ls : List (List ℕ)) → AllByRecursion IsLabel ls → AllByRecursion HasOctets (canonical ls)
have_octets [] each = tt
have_octets (l ∷ ls) each =
    rw (canonical_front (l ∷ []) ls)
    (one_more (canonical ls) (lower_label l) (have_octets ls each.1) (omega (arith, each.0.not_empty, length-map l to_ascii_lowercase)))

pub ended_keys_compare : EndedKeysCompare
ended_keys_compare xs ys us vs are others =
    ended_cmp (canonical xs) (canonical ys) us vs (have_octets xs are.each) (have_octets ys others.each)

same_flags : (a b : Bool) → a ≡ b → bool_cmp a b ≡ Equal
same_flags false false e = refl
same_flags false true e = absurd (true≢false (sym e))
same_flags true false e = absurd (true≢false e)
same_flags true true e = refl

pub keys_compare_names : KeysCompareNames
keys_compare_names x y e = keys_compare x.labels y.labels ∙ rw (same_flags x.is_fqdn y.is_fqdn e) refl

-- ---- keys that begin with others

pub equal_is : (xs ys : List ℕ) → (octets_cmp xs ys ≡ Equal) ↔ (xs ≡ ys)
equal_is xs ys = (
  λ e. (bytes_decides xs ys).0 (texts_ties xs ys ∙ (Equal-is (octets_cmp xs ys)).1 e),
  λ e. (Equal-is (octets_cmp xs ys)).0 (sym (texts_ties xs ys) ∙ (bytes_decides xs ys).1 e),
)

pub both_equal : (a b : Ordering) → ordering_then a b ≡ Equal → (a ≡ Equal) × (b ≡ Equal)
both_equal Less b e = absurd cc
both_equal Equal b e = (refl, e)
both_equal Greater b e = absurd cc

-- octets that begin with an ended label do so with no other
label_apart : (l m us vs : List ℕ) → label_key l ++ us ≡ label_key m ++ vs → (l ≡ m) × (us ≡ vs)
label_apart l m us vs e =
    let same : ordering_then (octets_cmp l m) (octets_cmp us vs) ≡ Equal =
    sym (label_then l m us vs) ∙ (equal_is (label_key l ++ us) (label_key m ++ vs)).1 e in
    let (labels, others) = both_equal (octets_cmp l m) (octets_cmp us vs) same in
    ((equal_is l m).0 labels, (equal_is us vs).0 others)

-- if the octets of labels begin with those of others, the labels do
labels_begin : (ls ms : List (List ℕ)) (rest : List ℕ) → flat_map label_key ls ≡ flat_map label_key ms ++ rest → (more : List (List ℕ)) × (ls ≡ ms ++ more)
labels_begin ls [] rest e = (ls, refl)
labels_begin [] (m ∷ ms) rest e =
    absurd (omega (arith, ap length e, length-append (label_key m ++ flat_map label_key ms) rest, label_takes m (flat_map label_key ms)))
labels_begin (l ∷ ls) (m ∷ ms) rest e =
    let (first, others) = label_apart l m (flat_map label_key ls) (flat_map label_key ms ++ rest) (e ∙ append_assoc (label_key m) (flat_map label_key ms) rest) in
    let (more, whole) = labels_begin ls ms rest others in
    (more, let same : l ∷ ls ≡ m ∷ (ms ++ more) = cc in same)

-- ---- keys of names

same_canonical : (xs ys : List (List ℕ)) → lower xs ≡ lower ys → canonical xs ≡ canonical ys
same_canonical xs ys e = lowered_last xs ∙ ap reverse e ∙ sym (lowered_last ys)

key_begins : (zone ls : List (List ℕ)) → IsZoneOf zone ls → (rest : List ℕ) × (sort_key ls ≡ sort_key zone ++ rest)
key_begins zone ls (front, last, whole, same) = (
  flat_map label_key (canonical front),
  ap sort_key whole ∙ ap (flat_map label_key) (canonical_front front last) ∙ flat_map-append label_key (canonical last) (canonical front)
      ∙ ap (λ (ms : List (List ℕ)). flat_map label_key ms ++ flat_map label_key (canonical front)) (same_canonical last zone same),
)

last_labels : (zone ls : List (List ℕ)) (rest : List ℕ) → sort_key ls ≡ sort_key zone ++ rest → lower (drop (length ls - length zone) ls) ≡ lower zone
last_labels zone ls rest e =
    let (others, begins) = labels_begin (canonical ls) (canonical zone) rest e in
    let whole : lower ls ≡ reverse others ++ lower zone =
    sym (reverse-reverse (lower ls)) ∙ ap reverse (sym (lowered_last ls) ∙ begins) ∙ reverse-append (canonical zone) others
    ∙ ap (λ (last : List (List ℕ)). reverse others ++ last) (ap reverse (lowered_last zone) ∙ reverse-reverse (lower zone)) in
    let count : length (reverse others) ≡ length ls - length zone =
    omega (arith, ap length whole, length-append (reverse others) (lower zone), length-map ls lower_label, length-map zone lower_label) in
    sym (drop-map lower_label (length ls - length zone) ls) ∙ ap (drop (length ls - length zone)) whole
    ∙ drop_at (reverse others) (lower zone) (length ls - length zone) count

pub zones_begin : ZonesBegin
zones_begin zone ls = (
  λ (rest, e). (IsZoneOf_last zone ls).1 (last_labels zone ls rest e),
  λ within. key_begins zone ls within,
)

pub keys_are_equal : KeysAreEqual
keys_are_equal xs ys = (
  λ e.
      let last = last_labels ys xs [] (e ∙ sym (append-nil (sort_key ys))) in
      let first = last_labels xs ys [] (sym e ∙ sym (append-nil (sort_key xs))) in
      let few : length xs - length ys ≡ 0 =
      omega (arith, ap length first, length-map (drop (length ys - length xs) ys) lower_label, length-map xs lower_label, length-drop (length ys - length xs) ys) in
      rw few at last,
  λ e. ap (flat_map label_key) (same_canonical xs ys e),
)

-- ---- how long they are

few_escaped : (l : List ℕ) → length (flat_map escape_octet l) ≤ length l + length l
few_escaped [] = omega arith
few_escaped (zero ∷ l) = omega (arith, few_escaped l)
few_escaped (suc zero ∷ l) = omega (arith, few_escaped l)
few_escaped (suc (suc n) ∷ l) = omega (arith, few_escaped l)

few_ended : (l : List ℕ) → length (label_key l) ≤ length l + length l + 1
few_ended l = omega (arith, length-append (flat_map escape_octet l) (0 ∷ []), few_escaped l)

sort_key_cons : (l : List ℕ) (ls : List (List ℕ)) → sort_key (l ∷ ls) ≡ sort_key ls ++ label_key (lower_label l)
sort_key_cons l ls =
    ap (flat_map label_key) (canonical_front (l ∷ []) ls) ∙ flat_map-append label_key (canonical ls) (lower_label l ∷ [])
    ∙ ap (λ (bytes : List ℕ). sort_key ls ++ bytes) (append-nil (label_key (lower_label l)))

-- The sizes of a key and of a wire form, by the number of labels.
record Sizes (ls : List (List ℕ)) : Type 0 where
  key : length (sort_key ls) + length ls + 2 ≤ encoded_size ls + encoded_size ls
  labels : encoded_size ls ≤ 64 * length ls + 1

sizes : (ls : List (List ℕ)) → AllByRecursion IsLabel ls → Sizes ls
sizes [] each = record { key = omega arith; labels = omega arith }
sizes (l ∷ ls) each =
    let others = sizes ls each.1 in
    let small = lower_label l in
    let size : length (sort_key (l ∷ ls)) ≤ length (sort_key ls) + (length l + length l + 1) =
    omega (arith, ap length (sort_key_cons l ls), length-append (sort_key ls) (label_key small), few_ended small, length-map l to_ascii_lowercase) in
    record {
      key = omega (arith, size, others.key, encoded_size_cons l ls);
      labels = omega (arith, others.labels, each.0.not_long, encoded_size_cons l ls);
    }

pub keys_are_short : KeysAreShort
keys_are_short ls h = let s = sizes ls h.each in omega (arith, s.key, s.labels, h.fit)

-- ---- keys as they are written

-- the key of what is left of a label begins with its first octet
pub octet_next : (label : List ℕ) (i x : ℕ) → i < length label → x ≡ to_ascii_lowercase (get_or label i 0)
    → label_key (lower_label (drop i label)) ≡ escape_octet x ++ label_key (lower_label (drop (i + 1) label))
octet_next label i x more e =
    rw (e, drop_more label i 0 more) (append_assoc (escape_octet (to_ascii_lowercase (get_or label i 0))) (flat_map escape_octet (lower_label (drop (i + 1) label))) (0 ∷ []))
