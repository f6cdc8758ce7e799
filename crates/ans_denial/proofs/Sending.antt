-- What names are sent to by those above them, and which names have an NSEC record.
use Rattle.std.proofs.Common.{◌≡◌, ◌⊎◌, ◌<◌, ◌≤◌, ℕ, Bool, true, false, cond, not, nat_le, List, [], ◌∷◌, ◌++◌, length, drop, Option, Some, None, refl, sym, ap, ◌∙◌, subst, inl, inr, arith}
use Rattle.std.proofs.lemmas.Bool.{and_right, cases_lt, or_parts, true_from_ne_false}
use Rattle.std.proofs.lemmas.Bool.Decides.{nat_tests}
use Rattle.std.proofs.lemmas.List.{length-append}
use Rattle.std.specs.List.{filter, list_any}
use Rattle.std.specs.Option.{option_or}
use Rattle.dns_names_wire.specs.Words.{IsZoneOf, RecordValue, is_in, is_same, lower}
use Rattle.ans_store.proofs.Names.{zone_if_in}
use Rattle.ans_store.specs.Zones.{ZoneValue, name_exists, owned_by}
use Rattle.ans_answer.proofs.Down.{all_below, one_below}
use Rattle.ans_answer.specs.Outcomes.{ZoneOutcome, is_delegation, sent_above, sent_at}
use Rattle.ans_denial.specs.Chains.{HasNsec}
use Rattle.ans_denial.proofs.Names.{in_alike, in_last, left_alike, length_alike, owner_of, right_alike}

is_most : (a b : ℕ) → a ≤ b → nat_le a b ≡ true
is_most a b h = grind (arith, nat_tests)

is_more : (a b : ℕ) → b < a → nat_le a b ≡ false
is_more a b h = grind (arith, nat_tests)

-- ---- records of names that are the same

filter_alike : (p q : RecordValue → Bool) (zs : List RecordValue) → ((z : RecordValue) → p z ≡ q z) → filter p zs ≡ filter q zs
filter_alike p q [] all = refl
filter_alike p q (z ∷ zs) all = rw (all z, filter_alike p q zs all) refl

pub owned_alike : (x y : List (List ℕ)) (zs : List RecordValue) → lower x ≡ lower y → owned_by x zs ≡ owned_by y zs
unfolding owned_by
owned_alike x y zs h = filter_alike (λ r. is_same r.owner x) (λ r. is_same r.owner y) zs (λ z. right_alike x y z.owner h)

filter_none : (p : RecordValue → Bool) (zs : List RecordValue) → list_any p zs ≡ false → filter p zs ≡ []
filter_none p [] h = refl
filter_none p (z ∷ zs) h =
    let (first, others) = or_parts (p z) (list_any p zs) h in
    rw first (filter_none p zs others)

pub nothing_owned : (name : List (List ℕ)) (zs : List RecordValue) → list_any (λ r. is_same r.owner name) zs ≡ false → owned_by name zs ≡ []
unfolding owned_by
nothing_owned name zs h = filter_none (λ r. is_same r.owner name) zs h

module _ (zone : ZoneValue) where
  pub delegation_alike : (x y : List (List ℕ)) → lower x ≡ lower y → is_delegation zone x ≡ is_delegation zone y
  unfolding is_delegation
  delegation_alike x y h = rw (owned_alike x y zone.records h, left_alike x y zone.apex h) refl

  pub sent_at_alike : (x y : List (List ℕ)) → lower x ≡ lower y → sent_at zone x ≡ sent_at zone y
  unfolding sent_at
  sent_at_alike x y h = rw (owned_alike x y zone.records h, delegation_alike x y h) refl

  pub sent_above_alike : (x y : List (List ℕ)) → lower x ≡ lower y → sent_above zone x ≡ sent_above zone y
  unfolding sent_above
  sent_above_alike [] [] h = refl
  sent_above_alike [] (m ∷ y) h = cc
  sent_above_alike (l ∷ x) [] h = cc
  sent_above_alike (l ∷ x) (m ∷ y) h =
      let rest : lower x ≡ lower y = ap (drop 1) h in
      rw (length_alike x y rest, sent_above_alike x y rest, sent_at_alike x y rest) refl

  -- A delegation has no records if there are none.
  pub not_delegation : (name : List (List ℕ)) → owned_by name zone.records ≡ [] → is_delegation zone name ≡ false
  unfolding is_delegation
  not_delegation name none = rw none (and_right (not (is_same name zone.apex)) false refl)

  pub not_sent_at : (name : List (List ℕ)) → owned_by name zone.records ≡ [] → sent_at zone name ≡ None
  unfolding sent_at
  not_sent_at name none = rw (not_delegation name none, none) refl

  -- What sends names away owns records.
  pub owns_if_sent : (name : List (List ℕ)) (o : ZoneOutcome) → sent_at zone name ≡ Some o → list_any (λ r. is_same r.owner name) zone.records ≡ true
  owns_if_sent name o sent =
      true_from_ne_false (list_any (λ r. is_same r.owner name) zone.records)
      (λ none. let nothing : sent_at zone name ≡ None = not_sent_at name (nothing_owned name zone.records none) in cc)

  -- ---- on the way down

  nothing_either : (b : Bool) → cond b (option_or {T = ZoneOutcome} None None) None ≡ None
  nothing_either true = refl
  nothing_either false = refl

  -- One label more: nothing sends the name away if nothing did, and the name above it does not.
  pub sent_step : (label : List ℕ) (up : List (List ℕ)) → sent_above zone up ≡ None → (length zone.apex ≤ length up → sent_at zone up ≡ None)
      → sent_above zone (label ∷ up) ≡ None
  unfolding sent_above
  sent_step label up free stays = elim (cases_lt (length up) (length zone.apex)) [
    | inl short ↦ rw (is_more (length zone.apex) (length up) short) refl
    | inr long ↦ rw (free, stays long) (nothing_either (nat_le (length zone.apex) (length up)))
  ]

  -- What a name sends away is all below it.
  sent_under : (front : List (List ℕ)) (label : List ℕ) (up : List (List ℕ)) (o : ZoneOutcome) → length zone.apex ≤ length up → sent_above zone up ≡ None
      → sent_at zone up ≡ Some o → sent_above zone ((label ∷ front) ++ up) ≡ Some o
  sent_under [] label up o long free sent = one_below zone label up long free ∙ sent
  sent_under (m ∷ front) label up o long free sent =
      all_below zone (label ∷ []) ((m ∷ front) ++ up) o (omega (arith, length-append (m ∷ front) up)) (sent_under front m up o long free sent)

  -- A name that sends others away has none below it with an NSEC record.
  pub not_under : (cut name : List (List ℕ)) (o : ZoneOutcome) → length zone.apex ≤ length cut → sent_above zone cut ≡ None → sent_at zone cut ≡ Some o
      → sent_above zone name ≡ None → is_in cut name ≡ true → lower name ≡ lower cut
  not_under cut name o long free sent none inside = by (zone_if_in cut name inside)
    where
      by : IsZoneOf cut name → lower name ≡ lower cut
      by ([], rest, is, same) = ap lower is ∙ same
      by ((label ∷ front), rest, is, same) =
          let way : sent_above zone name ≡ Some o =
          ap (sent_above zone) is
          ∙ sent_under front label rest o (subst (λ n. length zone.apex ≤ n) (sym (length_alike rest cut same)) long)
          (sent_above_alike rest cut same ∙ free) (sent_at_alike rest cut same ∙ sent) in
          cc

  -- ---- a name at or below one that nothing sends away

  abbrev pub NsecBelow : List (List ℕ) → Type 0
  NsecBelow above = (name : List (List ℕ)) × HasNsec zone name × (is_in above name ≡ true)

  next_free : (above : List (List ℕ)) (label : List ℕ) (front : List (List ℕ)) (o : Option ZoneOutcome) → sent_at zone (front ++ above) ≡ o
      → sent_above zone (front ++ above) ≡ None → (sent_above zone ((label ∷ front) ++ above) ≡ None) ⊎ NsecBelow above
  next_free above label front None is free = inl (sent_step label (front ++ above) free (λ _. is))
  next_free above label front (Some o) is free =
      inr (front ++ above, record { owns = owns_if_sent (front ++ above) o is; not_sent = free }, in_last front above)

  -- Nothing sends it away, or a name above it does that has an NSEC record.
  free_below : (above front : List (List ℕ)) → sent_above zone above ≡ None → (sent_above zone (front ++ above) ≡ None) ⊎ NsecBelow above
  free_below above [] free = inl free
  free_below above (label ∷ front) free = elim (free_below above front free) [
    | inl none ↦ next_free above label front (sent_at zone (front ++ above)) refl none
    | inr found ↦ inr found
  ]

  -- So below each name that exists, and that nothing sends away, one has an NSEC record.
  pub nsec_below : (above : List (List ℕ)) → sent_above zone above ≡ None → name_exists above zone.records ≡ true → NsecBelow above
  unfolding name_exists
  nsec_below above free there =
      let (r, passes, owns) = owner_of (λ r. is_in above r.owner) zone.records there in
      let (front, rest, is, same) = zone_if_in above r.owner passes in
      elim (free_below rest front (sent_above_alike rest above same ∙ free)) [
        | inl none ↦ (r.owner, record { owns = owns; not_sent = ap (sent_above zone) is ∙ none }, passes)
        | inr found ↦ (found.0, found.1, sym (in_alike rest above found.0 same) ∙ found.2)
      ]
