-- The delegation that a name is referred to.
use Rattle.std.proofs.Common.{◌≡◌, ◌⊎◌, ℕ, Bool, true, false, cond, nat_le, List, [], ◌∷◌, ◌++◌, length, Option, Some, None, refl, sym, ap, ◌∙◌, inl, inr}
use Rattle.std.proofs.lemmas.Bool.{and_parts}
use Rattle.std.specs.Option.{option_or}
use Rattle.dns_names_wire.specs.Words.{RecordValue, dname_code, is_in}
use Rattle.ans_store.specs.Zones.{ZoneValue, have_type, name_exists, owned_by}
use Rattle.ans_answer.specs.Outcomes.{Exact, NoName, Outside, Redirect, Referral, Synthesised, ZoneOutcome, by_wildcard, is_delegation, is_sent, itself, outcome, sent_above, sent_at, source}
use Rattle.ans_denial.specs.Chains.{HasNsec}
use Rattle.ans_denial.proofs.Names.{in_last}
use Rattle.ans_denial.proofs.Sending.{owns_if_sent}

-- ---- what is said by cases

sent_choice : (cut dname : Bool) (rs records : List RecordValue) → cond cut (Some (Referral rs)) (cond dname (Some (Redirect rs)) None) ≡ Some (Referral records)
    → records ≡ rs
sent_choice true dname rs records h = cc
sent_choice false true rs records h = cc
sent_choice false false rs records h = cc

above_choice : (far : Bool) (up here : Option ZoneOutcome) (o : ZoneOutcome) → cond far (option_or up here) None ≡ Some o → (up ≡ Some o) ⊎ ((up ≡ None) × (here ≡ Some o))
above_choice true None here o h = inr (refl, h)
above_choice true (Some x) here o h = inl h
above_choice false up here o h = absurd (cc)

wild_choice : (there : Bool) (rs records : List RecordValue) → cond there (Synthesised rs) NoName ≡ Referral records → ⊥
wild_choice true rs records h = cc
wild_choice false rs records h = cc

same_records : (rs records : List RecordValue) → Referral rs ≡ Referral records → records ≡ rs
same_records rs records h = cc

not_exact : (rs records : List RecordValue) → Exact rs ≡ Referral records → ⊥
not_exact rs records h = cc

not_outside : (records : List RecordValue) → Outside ≡ Referral records → ⊥
not_outside records h = cc

module _ (zone : ZoneValue) where
  sent_records : (name : List (List ℕ)) (records : List RecordValue) → sent_at zone name ≡ Some (Referral records) → records ≡ owned_by name zone.records
  unfolding sent_at
  sent_records name records h =
      sent_choice (is_delegation zone name) (have_type dname_code (owned_by name zone.records)) (owned_by name zone.records) records h

  not_by_wildcard : (wild : List (List ℕ)) (records : List RecordValue) → by_wildcard zone wild ≡ Referral records → ⊥
  unfolding by_wildcard
  not_by_wildcard wild records h = wild_choice (name_exists wild zone.records) (owned_by wild zone.records) records h

  cut_sends : (name : List (List ℕ)) → is_delegation zone name ≡ true → sent_at zone name ≡ Some (Referral (owned_by name zone.records))
  unfolding sent_at
  cut_sends name cut = rw cut refl

  is_cut_if_sent : (name : List (List ℕ)) (code : ℕ) → is_sent zone name code ≡ true → is_delegation zone name ≡ true
  unfolding is_sent
  is_cut_if_sent name code h = (and_parts (is_delegation zone name) _ h).0

  itself_by : (name : List (List ℕ)) (code : ℕ) (records : List RecordValue) (sent there : Bool) → is_sent zone name code ≡ sent
      → name_exists name zone.records ≡ there → itself zone name code ≡ Referral records
      → (is_sent zone name code ≡ true) × (records ≡ owned_by name zone.records)
  unfolding itself
  itself_by name code records true there is known h = (is, same_records (owned_by name zone.records) records (rw is at h))
  itself_by name code records false true is known h = absurd (not_exact (owned_by name zone.records) records (rw (is, known) at h))
  itself_by name code records false false is known h = absurd (not_by_wildcard (source zone name) records (rw (is, known) at h))

  outcome_by : (name : List (List ℕ)) (code : ℕ) (records : List RecordValue) (inside : Bool) (sent : Option ZoneOutcome) → is_in zone.apex name ≡ inside
      → sent_above zone name ≡ sent → outcome zone name code ≡ Referral records
      → (sent_above zone name ≡ Some (Referral records)) ⊎ ((sent_above zone name ≡ None) × (itself zone name code ≡ Referral records))
  unfolding outcome
  outcome_by name code records false sent is above h = absurd (not_outside records (rw is at h))
  outcome_by name code records true None is above h = inr (above, rw (is, above) at h)
  outcome_by name code records true (Some o) is above h =
      let same : o ≡ Referral records = rw (is, above) at h in
      inl (above ∙ ap Some same)

  module _ (up : List (List ℕ)) (free : sent_above zone up ≡ None) where
    -- A delegation at or below a name, and what it owns.
    abbrev pub CutBelow : List RecordValue → Type 0
    CutBelow records = (cut : List (List ℕ)) × HasNsec zone cut × (is_in up cut ≡ true) × (records ≡ owned_by cut zone.records)

    none_sent : (records : List RecordValue) → sent_above zone up ≡ Some (Referral records) → ⊥
    none_sent records h = let none : None ≡ Some (Referral records) = sym free ∙ h in cc

    sent_by : (front : List (List ℕ)) (records : List RecordValue) → sent_above zone (front ++ up) ≡ Some (Referral records) → CutBelow records
    unfolding sent_above
    sent_by [] records h = absurd (none_sent records h)
    sent_by (label ∷ front) records h =
        elim (above_choice (nat_le (length zone.apex) (length (front ++ up))) (sent_above zone (front ++ up)) (sent_at zone (front ++ up)) (Referral records) h) [
          | inl sent ↦ sent_by front records sent
          | inr here ↦ (
            front ++ up,
            record { owns = owns_if_sent zone (front ++ up) (Referral records) here.1; not_sent = here.0 },
            in_last front up,
            sent_records (front ++ up) records here.1,
          )
        ]

    pub referred : (front : List (List ℕ)) (code : ℕ) (records : List RecordValue) → outcome zone (front ++ up) code ≡ Referral records → CutBelow records
    referred front code records said =
        let name = front ++ up in
        elim (outcome_by name code records (is_in zone.apex name) (sent_above zone name) refl refl said) [
          | inl sent ↦ sent_by front records sent
          | inr own ↦
              let (leaves, is) = itself_by name code records (is_sent zone name code) (name_exists name zone.records) refl refl own.1 in (
                name,
                record {
                  owns = owns_if_sent zone name (Referral (owned_by name zone.records)) (cut_sends name (is_cut_if_sent name code leaves));
                  not_sent = own.0;
                },
                in_last front up,
                is,
              )
        ]
