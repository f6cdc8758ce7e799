-- The way down from the apex of a zone to a name, label by label.
use Rattle.std.proofs.Common.{◌≡◌, ℕ, ◌+◌, ◌-◌, ◌<◌, ◌≤◌, ◌&&◌, ◌||◌, Bool, true, false, cond, eqb, not, nat_le, true≢false, List, [], ◌∷◌, ◌++◌, length, get_or, take, drop, Some, None, Result, Ok, refl, sym, ap, ◌∙◌, subst, inl, inr, map, arith}
use Rattle.std.proofs.lemmas.Bool.{cases_lt}
use Rattle.std.proofs.lemmas.Bool.Decides.{nat_tests}
use Rattle.std.proofs.lemmas.List.{append_assoc, drop-drop, drop_more, length-append, length-drop, length-map, take-append-drop}
use Rattle.std.specs.Char.{to_ascii_lowercase}
use Rattle.std.specs.List.{filter, list_any}
use Rattle.dns_names_wire.specs.Words.{IsZoneOf, NameValue, RecordValue, is_in, is_same, wildcard}
use Rattle.ans_store.proofs.Names.{in_if_same, in_if_zone, lower_if_same, zone_if_in}
use Rattle.ans_store.specs.Zones.{ZoneValue, name_exists, owned_by}
use Rattle.ans_answer.specs.Outcomes.{ZoneOutcome, Exact, Referral, by_wildcard, encloser, is_delegation, is_sent, itself, sent_above, sent_at, source}
use Rattle.ans_answer.specs.Inside.Ways.{EndsDown}

is_most : (a b : ℕ) → a ≤ b → nat_le a b ≡ true
is_most a b h = grind (arith, nat_tests)

is_more : (a b : ℕ) → b < a → nat_le a b ≡ false
is_more a b h = grind (arith, nat_tests)

so_true : (b : Bool) → (b ≡ false → ⊥) → b ≡ true
so_true false none = absurd (none refl)
so_true true none = refl

so_false : (b : Bool) → (b ≡ true → ⊥) → b ≡ false
so_false false none = refl
so_false true none = absurd (none refl)

neither : (a b : Bool) → (a || b) ≡ false → (a ≡ false) × (b ≡ false)
neither true b h = absurd (true≢false h)
neither false b h = (refl, h)

both_false : (a b : Bool) → a ≡ false → b ≡ false → (a || b) ≡ false
both_false a b h g = rw (h, g) refl

pub if_not_false : (b : Bool) → not b ≡ false → b ≡ true
if_not_false true h = refl
if_not_false false h = absurd (true≢false h)

pub if_not_true : (b : Bool) → not b ≡ true → b ≡ false
if_not_true true h = absurd (true≢false (sym h))
if_not_true false h = refl

pub ok_same : {T E : Type 0} (r : Result T E) (x y : T) → r ≡ Ok x → r ≡ Ok y → x ≡ y
ok_same r x y h g = cc

-- ---- what is known of a name above holds for those below it

module _ (zone : ZoneValue) where
  -- At the apex, and above it, nothing sends a name away.
  pub none_above : (name : List (List ℕ)) → length name ≤ length zone.apex → sent_above zone name ≡ None
  unfolding sent_above
  none_above [] h = refl
  none_above (label ∷ above) h = rw (is_more (length zone.apex) (length above) (omega arith)) refl

  pub one_below : (label : List ℕ) (above : List (List ℕ)) → length zone.apex ≤ length above → sent_above zone above ≡ None
      → sent_above zone (label ∷ above) ≡ sent_at zone above
  unfolding sent_above
  one_below label above h none = rw (is_most (length zone.apex) (length above) h, none) refl

  -- What is sent away stays so further down.
  pub all_below : (front above : List (List ℕ)) (o : ZoneOutcome) → length zone.apex ≤ length above → sent_above zone above ≡ Some o
      → sent_above zone (front ++ above) ≡ Some o
  unfolding sent_above
  all_below [] above o h sent = sent
  all_below (label ∷ front) above o h sent =
      let long : length zone.apex ≤ length (front ++ above) = omega (arith, length-append front above) in
      rw (is_most (length zone.apex) (length (front ++ above)) long, all_below front above o h sent) refl

-- ---- names below one that does not exist

any_more : (p q : RecordValue → Bool) (zs : List RecordValue) → ((z : RecordValue) → q z ≡ true → p z ≡ true) → list_any p zs ≡ false → list_any q zs ≡ false
any_more p q [] all h = refl
any_more p q (z ∷ zs) all h =
    let (first, others) = neither (p z) (list_any p zs) h in
    both_false (q z) (list_any q zs) (so_false (q z) (λ yes. true≢false (sym (all z yes) ∙ first))) (any_more p q zs all others)

filter_nothing : (p q : RecordValue → Bool) (zs : List RecordValue) → ((z : RecordValue) → q z ≡ true → p z ≡ true) → list_any p zs ≡ false → filter q zs ≡ []
filter_nothing p q [] all h = refl
filter_nothing p q (z ∷ zs) all h =
    let (first, others) = neither (p z) (list_any p zs) h in
    rw (so_false (q z) (λ yes. true≢false (sym (all z yes) ∙ first))) (filter_nothing p q zs all others)

in_parent : (label : List ℕ) (above name : List (List ℕ)) → is_in (label ∷ above) name ≡ true → is_in above name ≡ true
in_parent label above name h = by (zone_if_in (label ∷ above) name h)
  where
    by : IsZoneOf (label ∷ above) name → is_in above name ≡ true
    by (front, [], is, same) = cc
    by (front, (l ∷ rest), is, same) =
        in_if_zone above name (front ++ l ∷ [], rest, is ∙ sym (append_assoc front (l ∷ []) rest), ap (drop 1) same)

not_below : (zs : List RecordValue) (label : List ℕ) (above : List (List ℕ)) → name_exists above zs ≡ false → name_exists (label ∷ above) zs ≡ false
unfolding name_exists
not_below zs label above h = any_more (λ r. is_in above r.owner) (λ r. is_in (label ∷ above) r.owner) zs (λ z. in_parent label above z.owner) h

none_below : (zs : List RecordValue) (front above : List (List ℕ)) → name_exists above zs ≡ false → name_exists (front ++ above) zs ≡ false
none_below zs [] above h = h
none_below zs (label ∷ front) above h = not_below zs label (front ++ above) (none_below zs front above h)

pub nothing_owned : (zs : List RecordValue) (name : List (List ℕ)) → name_exists name zs ≡ false → owned_by name zs ≡ []
unfolding name_exists owned_by
nothing_owned zs name h = filter_nothing (λ r. is_in name r.owner) (λ r. is_same r.owner name) zs (λ z. in_if_same name z.owner) h

no_cut : (a : Bool) → (not a && false) ≡ false
no_cut true = refl
no_cut false = refl

not_sent : (zone : ZoneValue) (name : List (List ℕ)) → name_exists name zone.records ≡ false → sent_at zone name ≡ None
unfolding sent_at is_delegation
not_sent zone name h = rw (nothing_owned zone.records name h, no_cut (is_same name zone.apex)) refl

module _ (zone : ZoneValue) where
  not_sent_below : (front above : List (List ℕ)) → length zone.apex ≤ length above → name_exists above zone.records ≡ false → sent_above zone above ≡ None
      → sent_above zone (front ++ above) ≡ None
  not_sent_below [] above h gone none = none
  not_sent_below (label ∷ front) above h gone none =
      one_below zone label (front ++ above) (omega (arith, length-append front above)) (not_sent_below front above h gone none)
      ∙ not_sent zone (front ++ above) (none_below zone.records front above gone)

  encloser_below : (front above : List (List ℕ)) → name_exists above zone.records ≡ false → encloser zone (front ++ above) ≡ encloser zone above
  unfolding encloser
  encloser_below [] above gone = refl
  encloser_below (label ∷ front) above gone =
      rw (not_below zone.records label (front ++ above) (none_below zone.records front above gone)) (encloser_below front above gone)

  encloser_self : (name : List (List ℕ)) → name_exists name zone.records ≡ true → encloser zone name ≡ name
  unfolding encloser
  encloser_self [] h = refl
  encloser_self (label ∷ above) h = rw h refl

  encloser_up : (label : List ℕ) (above : List (List ℕ)) → name_exists (label ∷ above) zone.records ≡ false → name_exists above zone.records ≡ true
      → encloser zone (label ∷ above) ≡ above
  unfolding encloser
  encloser_up label above gone there = rw gone (encloser_self above there)

in_same : (apex name other : List (List ℕ)) → is_same name apex ≡ true → is_in apex other ≡ true → is_in name other ≡ true
in_same apex name other same h =
    let (front, rest, is, lowered) = zone_if_in apex other h in
    in_if_zone name other (front, rest, is, lowered ∙ sym (lower_if_same name apex same))

-- A name exists as one that is the same does.
exists_same : (zs : List RecordValue) (apex name : List (List ℕ)) → is_same name apex ≡ true → name_exists apex zs ≡ true → name_exists name zs ≡ true
unfolding name_exists
exists_same zs apex name same h =
    so_true _ (λ no. true≢false (sym h ∙ any_more (λ r. is_in name r.owner) (λ r. is_in apex r.owner) zs (λ z. in_same apex name z.owner same) no))

abbrev qualified : List (List ℕ) → NameValue
qualified labels = record { is_fqdn = true; labels = labels }

-- ---- the way down, by the count of labels

-- So many last labels of a name are one at or above it: none above that sends names away, and all of those exist.
pub record IsDown (zone : ZoneValue) (name : List (List ℕ)) (count : ℕ) : Type 0 where
  pub lower : length zone.apex ≤ count
  pub upper : count ≤ length name
  pub none : sent_above zone (drop (length name - count) name) ≡ None
  pub known : length zone.apex < count → name_exists (drop (length name - count + 1) name) zone.records ≡ true

last_long : (name : List (List ℕ)) (count : ℕ) → count ≤ length name → length (drop (length name - count) name) ≡ count
last_long name count h = length-drop (length name - count) name ∙ omega arith

last_more : (name : List (List ℕ)) (count : ℕ) → 0 < count → count ≤ length name
    → drop (length name - count) name ≡ get_or name (length name - count) [] ∷ drop (length name - count + 1) name
last_more name count h within = drop_more name (length name - count) [] (omega arith)

no_zero : (n : ℕ) → 0 < n → eqb n 0 ≡ false
no_zero n h = grind (arith, nat_tests)

pub beside_is : (above : NameValue) (labels : List (List ℕ)) (count : ℕ) → 0 < count → count ≤ length labels
    → above.labels ≡ drop (length labels - count) labels
    → (cond (eqb (length above.labels) 0) (qualified []) (record { is_fqdn = above.is_fqdn; labels = wildcard ∷ drop 1 above.labels })).labels
    ≡ wildcard ∷ drop (length labels - count + 1) labels
beside_is above labels count some within is =
    let long : length above.labels ≡ count = ap length is ∙ last_long labels count within in
    let no : eqb (length above.labels) 0 ≡ false = no_zero (length above.labels) (omega (arith, long, some)) in
    rw no (ap (λ (ls : List (List ℕ)). wildcard ∷ ls) (ap (drop 1) is ∙ drop-drop 1 (length labels - count) labels))

module _ (zone : ZoneValue) (name : List (List ℕ)) where
  pub down_starts : is_in zone.apex name ≡ true → IsDown zone name (length zone.apex)
  down_starts h =
      let (front, rest, is, same) = zone_if_in zone.apex name h in
      let long : length rest ≡ length zone.apex = sym (length-map rest (map to_ascii_lowercase)) ∙ (ap length same ∙ length-map zone.apex (map to_ascii_lowercase)) in
      let within : length zone.apex ≤ length name = omega (arith, ap length is, length-append front rest, long) in
      record {
        lower = omega arith;
        upper = within;
        none = none_above zone (drop (length name - length zone.apex) name) (omega (arith, last_long name (length zone.apex) within));
        known = λ less. absurd (omega arith);
      }

  next_is : (count : ℕ) → count < length name
      → drop (length name - (count + 1)) name ≡ get_or name (length name - (count + 1)) [] ∷ drop (length name - count) name
  next_is count below =
      let back : length name - (count + 1) + 1 ≡ length name - count = omega arith in
      last_more name (count + 1) (omega arith) (omega arith) ∙ ap (λ n. get_or name (length name - (count + 1)) [] ∷ drop n name) back

  pub sent_next : (count : ℕ) → IsDown zone name count → count < length name
      → sent_above zone (drop (length name - (count + 1)) name) ≡ sent_at zone (drop (length name - count) name)
  sent_next count down below =
      let long : length zone.apex ≤ length (drop (length name - count) name) = omega (arith, last_long name count down.upper, down.lower) in
      ap (sent_above zone) (next_is count below)
      ∙ one_below zone (get_or name (length name - (count + 1)) []) (drop (length name - count) name) long down.none

  pub down_more : (count : ℕ) → IsDown zone name count → count < length name → name_exists (drop (length name - count) name) zone.records ≡ true
      → sent_at zone (drop (length name - count) name) ≡ None → IsDown zone name (count + 1)
  down_more count down below there none =
      let back : length name - (count + 1) + 1 ≡ length name - count = omega arith in
      record {
        lower = omega (arith, down.lower);
        upper = omega arith;
        none = sent_next count down below ∙ none;
        known = λ less. subst (λ n. name_exists (drop n name) zone.records ≡ true) (sym back) there;
      }

  pub sent_down : (count : ℕ) (o : ZoneOutcome) → IsDown zone name count → count < length name → sent_at zone (drop (length name - count) name) ≡ Some o
      → sent_above zone name ≡ Some o
  sent_down count o down below sent =
      let left = length name - (count + 1) in
      let long : length zone.apex ≤ length (drop left name) = omega (arith, last_long name (count + 1) (omega arith), down.lower) in
      subst (λ (n : List (List ℕ)). sent_above zone n ≡ Some o) (take-append-drop left name)
      (all_below zone (take left name) (drop left name) o long (sent_next count down below ∙ sent))

  above_apex : (count : ℕ) → is_in zone.apex name ≡ true → name_exists zone.apex zone.records ≡ true → IsDown zone name count
      → name_exists (drop (length name - count) name) zone.records ≡ false → length zone.apex < count
  unfolding is_in
  above_apex count inside there down gone =
      elim (cases_lt (length zone.apex) count) [
        | inl below ↦ below
        | inr above ↦
            let same : count ≡ length zone.apex = omega (arith, down.lower, above) in
            absurd (true≢false (sym (exists_same zone.records zone.apex (drop (length name - length zone.apex) name) inside there)
            ∙ subst (λ n. name_exists (drop (length name - n) name) zone.records ≡ false) same gone))
      ]

  -- The name of so many labels does not exist: then the one above it is the closest encloser.
  ends_at : (count : ℕ) → is_in zone.apex name ≡ true → name_exists zone.apex zone.records ≡ true → IsDown zone name count
      → name_exists (drop (length name - count) name) zone.records ≡ false
      → (0 < count) × (encloser zone name ≡ drop (length name - count + 1) name)
  ends_at count inside there down gone =
      let left = length name - count in
      let below : length zone.apex < count = above_apex count inside there down gone in
      let some : 0 < count = omega (arith, below) in (
        some,
        ap (encloser zone) (sym (take-append-drop left name))
            ∙ (encloser_below zone (take left name) (drop left name) gone
            ∙ (ap (encloser zone) (last_more name count some down.upper)
            ∙ encloser_up zone (get_or name left []) (drop (left + 1) name) (subst (λ (n : List (List ℕ)). name_exists n zone.records ≡ false) (last_more name count some down.upper) gone)
            (down.known below))),
      )

  pub ends_before : (count : ℕ) → is_in zone.apex name ≡ true → name_exists zone.apex zone.records ≡ true → IsDown zone name count
      → name_exists (drop (length name - count) name) zone.records ≡ false → EndsDown zone name count
  ends_before count inside there down gone =
      let left = length name - count in
      let (some, closest) = ends_at count inside there down gone in
      record {
        within = down.upper;
        not_sent = subst (λ (n : List (List ℕ)). sent_above zone n ≡ None) (take-append-drop left name)
            (not_sent_below zone (take left name) (drop left name) (omega (arith, last_long name count down.upper, down.lower)) gone down.none);
        below = λ _. some;
        closest = λ _. closest;
      }

  pub ends_there : (count : ℕ) → is_in zone.apex name ≡ true → name_exists zone.apex zone.records ≡ true → IsDown zone name count → length name ≤ count
      → EndsDown zone name count
  ends_there count inside there down all =
      let upper = down.upper in
      let zero : length name - count ≡ 0 = omega arith in
      let whole : drop (length name - count) name ≡ name = ap (λ n. drop n name) zero in
      let ends = λ (gone : name_exists name zone.records ≡ false).
      ends_at count inside there down (subst (λ (n : List (List ℕ)). name_exists n zone.records ≡ false) (sym whole) gone) in
      record {
        within = upper;
        not_sent = subst (λ (n : List (List ℕ)). sent_above zone n ≡ None) whole down.none;
        below = λ gone. (ends gone).0;
        closest = λ gone. (ends gone).1;
      }

-- ---- what a name itself says

pub itself_missing : (zone : ZoneValue) (name wild : List (List ℕ)) (code count : ℕ) → EndsDown zone name count → is_sent zone name code ≡ false
    → name_exists name zone.records ≡ false → wild ≡ wildcard ∷ drop (length name - count + 1) name → by_wildcard zone wild ≡ itself zone name code
unfolding itself source
itself_missing zone name wild code count end kept gone is = rw (kept, gone, end.closest gone, is) refl

pub itself_sent : (zone : ZoneValue) (name : List (List ℕ)) (code : ℕ) (rs : List RecordValue) → is_sent zone name code ≡ true → rs ≡ owned_by name zone.records
    → Referral rs ≡ itself zone name code
unfolding itself
itself_sent zone name code rs sent is = rw (sent, is) refl

pub itself_there : (zone : ZoneValue) (name : List (List ℕ)) (code : ℕ) (rs : List RecordValue) → is_sent zone name code ≡ false → name_exists name zone.records ≡ true
    → rs ≡ owned_by name zone.records → Exact rs ≡ itself zone name code
unfolding itself
itself_there zone name code rs kept there is = rw (kept, there, is) refl
