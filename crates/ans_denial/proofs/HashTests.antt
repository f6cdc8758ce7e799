-- The hashes that a record covers, by a test of the facade.
use Rattle.std.proofs.Common.{◌≡◌, ◌&&◌, ◌||◌, ℕ, Bool, true, false, true≢false, List, sym, ap, ◌∙◌, inl, inr}
use Rattle.std.proofs.lemmas.Bool.{and_from, and_parts, cases_Bool, cond-false, cond-true, or_cases, or_left, or_right}
use Rattle.std.specs.Cmp.{both_ways}
use Rattle.std.specs.Ordering.{is_lt}
use Rattle.dns_names_wire.specs.Words.{Nsec3Covers, octets_cmp}
use Rattle.ans_denial.specs.Hashes.{Nsec3Value, covers_hash}
use Rattle.ans_denial.proofs.Steps.{less_is, not_less}

module _ (nsec : Nsec3Value) (hash : List ℕ) where
  if_between : is_lt (octets_cmp nsec.own nsec.next) ≡ true
      → covers_hash hash nsec ≡ (is_lt (octets_cmp nsec.own hash) && is_lt (octets_cmp hash nsec.next))
  unfolding covers_hash
  if_between less = cond-true (is_lt (octets_cmp nsec.own nsec.next)) _ _ less

  if_outside : is_lt (octets_cmp nsec.own nsec.next) ≡ false
      → covers_hash hash nsec ≡ (is_lt (octets_cmp nsec.own hash) || is_lt (octets_cmp hash nsec.next))
  unfolding covers_hash
  if_outside other = cond-false (is_lt (octets_cmp nsec.own nsec.next)) _ _ other

  covers_if : Nsec3Covers nsec.own nsec.next hash → covers_hash hash nsec ≡ true
  covers_if found = elim (cases_Bool (is_lt (octets_cmp nsec.own nsec.next))) [
    | inl less ↦
        let (after, before) = found.between (less_is (octets_cmp nsec.own nsec.next) less) in
        if_between less ∙ and_from (is_lt (octets_cmp nsec.own hash)) (is_lt (octets_cmp hash nsec.next)) (ap is_lt after) (ap is_lt before)
    | inr other ↦
        if_outside other
        ∙ elim (found.outside (λ less. true≢false (sym (ap is_lt less) ∙ other))) [
          | inl after ↦ or_left (is_lt (octets_cmp nsec.own hash)) (is_lt (octets_cmp hash nsec.next)) (ap is_lt after)
          | inr before ↦ or_right (is_lt (octets_cmp nsec.own hash)) (is_lt (octets_cmp hash nsec.next)) (ap is_lt before)
        ]
  ]

  covered_is : covers_hash hash nsec ≡ true → Nsec3Covers nsec.own nsec.next hash
  covered_is h = record {
    between = λ less.
        let (after, before) = and_parts (is_lt (octets_cmp nsec.own hash)) (is_lt (octets_cmp hash nsec.next)) (sym (if_between (ap is_lt less)) ∙ h) in
        (less_is (octets_cmp nsec.own hash) after, less_is (octets_cmp hash nsec.next) before);
    outside = λ other. elim (or_cases (is_lt (octets_cmp nsec.own hash)) (is_lt (octets_cmp hash nsec.next))
        (sym (if_outside (not_less (octets_cmp nsec.own nsec.next) other)) ∙ h)) [
          | inl after ↦ inl (less_is (octets_cmp nsec.own hash) after)
          | inr before ↦ inr (less_is (octets_cmp hash nsec.next) before)
        ];
  }

pub covers_by_test : (b : Bool) (nsec : Nsec3Value) (hash : List ℕ)
    → (b ≡ true → Nsec3Covers nsec.own nsec.next hash) × (Nsec3Covers nsec.own nsec.next hash → b ≡ true) → b ≡ covers_hash hash nsec
covers_by_test b nsec hash test =
    both_ways b (covers_hash hash nsec) (λ yes. covers_if nsec hash (test.0 yes)) (λ yes. test.1 (covered_is nsec hash yes))
