-- The names that a record covers.
use Rattle.std.proofs.Common.{◌≡◌, ℕ, true, false, List, sym, ◌∙◌}
use Rattle.std.proofs.lemmas.Bool.{and_from, and_parts, cond-true, cond_both}
use Rattle.std.specs.Ordering.{is_lt}
use Rattle.dns_names_wire.specs.Words.{is_in, labels_cmp}
use Rattle.ans_denial.specs.Nsecs.{NsecValue, covers}

pub covered_if : (nsec : NsecValue) (name : List (List ℕ)) → is_lt (labels_cmp nsec.owner name) ≡ true
    → (is_lt (labels_cmp nsec.owner nsec.next) ≡ true → is_lt (labels_cmp name nsec.next) ≡ true)
    → (is_lt (labels_cmp nsec.owner nsec.next) ≡ false → is_in nsec.next name ≡ true) → covers nsec name ≡ true
unfolding covers
covered_if nsec name after before within =
    and_from (is_lt (labels_cmp nsec.owner name)) _ after
    (cond_both (is_lt (labels_cmp nsec.owner nsec.next)) (is_lt (labels_cmp name nsec.next)) (is_in nsec.next name) (λ b. b ≡ true) before within)

pub after_owner : (nsec : NsecValue) (name : List (List ℕ)) → covers nsec name ≡ true → is_lt (labels_cmp nsec.owner name) ≡ true
unfolding covers
after_owner nsec name h = (and_parts (is_lt (labels_cmp nsec.owner name)) _ h).0

pub before_next : (nsec : NsecValue) (name : List (List ℕ)) → covers nsec name ≡ true → is_lt (labels_cmp nsec.owner nsec.next) ≡ true
    → is_lt (labels_cmp name nsec.next) ≡ true
unfolding covers
before_next nsec name h less =
    sym (cond-true (is_lt (labels_cmp nsec.owner nsec.next)) (is_lt (labels_cmp name nsec.next)) (is_in nsec.next name) less)
    ∙ (and_parts (is_lt (labels_cmp nsec.owner name)) _ h).1
