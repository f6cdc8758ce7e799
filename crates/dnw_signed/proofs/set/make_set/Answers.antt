-- A sort and a `dedup` leave the same octets, in ascending order and without duplicates.
use Rattle.std.proofs.Common.{◌≡◌, ◌≤◌, ℕ, List, true, length, nat_eq}
use Rattle.std.specs.Cmp.Lexicographic.{on_texts, pointwise, slice_cmp, texts_ties}
use Rattle.std.specs.Borrow.{Bor}
use Rattle.std.specs.Ordering.{nat_cmp}
use Rattle.std.proofs.lemmas.Slice.Eq.{bytes_eq-Decides}
use Rattle.std.proofs.lemmas.Cmp.{nat_list_eq_equiv, on_equiv}
use Rattle.std.proofs.lemmas.List.Filters.{All-dedup, dedup_is}
use Rattle.std.proofs.lemmas.List.Sorted.{All-permutation}
use Rattle.dnw_base.specs.Limits.{max_message}
use Rattle.dnw_signed.proofs.Sets.{set-ascends, set-each, set-every}
use Rattle.dnw_signed.proofs.set.make_set.Goals as goal

pub returns-clause-set : goal.returns-clause-set
returns-clause-set c =
    let items : Bor (List ℕ) → List ℕ = λ own. own.now in
    let ties = λ (x y : Bor (List ℕ)). texts_ties x.now y.now in
    let equal = on_equiv items nat_list_eq_equiv in
    let exact = λ (x y : Bor (List ℕ)). λ (same : pointwise nat_eq x.now y.now ≡ true). (bytes_eq-Decides x.now y.now).0 same in
    let moved = c.sort_unstable.ensures.permutation in
    rw (dedup_is _ _ _ c.dedup.ensures.filtered) (record {
      ascend = set-ascends items (slice_cmp nat_cmp) (on_texts items) equal ties exact _ c.sort_unstable.ensures.sorted;
      each = set-each items (slice_cmp nat_cmp) (on_texts items) equal ties exact _ _ moved;
      every = set-every items (slice_cmp nat_cmp) (on_texts items) equal ties exact _ _ moved;
    })

pub returns-clause-short : goal.returns-clause-short
returns-clause-short c =
    rw (dedup_is _ _ _ c.dedup.ensures.filtered)
    (All-dedup _ (λ own. length own.now ≤ max_message) _ (All-permutation (λ own. length own.now ≤ max_message) _ _ c.sort_unstable.ensures.permutation c.requires))
