use Rattle.std.proofs.Common.{◌≡◌, ◌≤◌, ℕ, length, arith}
use Rattle.std.proofs.lemmas.List.{length-replicate}
use Rattle.std.proofs.lemmas.List.Elements.{All-replicate}
use Rattle.dnw_write_suffixes.specs.Inside.Links.{wide_tag}
use Rattle.dnw_write_suffixes.proofs.Rings.{none_linked, zeros}
use Rattle.dnw_write_suffixes.proofs.links.Links.with_room.Goals as goal

pub invariant_of-result : goal.invariant_of-result
invariant_of-result c =
    let last = c.in_ok-vec.ensures.items_if_clones_equal (λ y e. e) in
    let next = c.in_ok-vec-2.ensures.items_if_clones_equal (λ y e. e) in
    let size : length c.in_ok-vec-2.field-0.items ≡ c.args.room = rw next (length-replicate {A = ℕ} c.args.room 0) in
    record {
      room = omega (arith, size, c.requires);
      few = omega arith;
      tags = λ some. rw last (length-replicate {A = ℕ} 4096 0);
      within = rw last (All-replicate (λ n. n ≤ length c.in_ok-vec-2.field-0.items) 4096 0 (omega arith));
    }

pub returns-clause-chained : goal.returns-clause-chained
returns-clause-chained c = λ cs. none_linked 4096 wide_tag _ _ cs
    (λ t below. rw (c.in_ok-vec.ensures.items_if_clones_equal (λ y e. e)) (zeros 4096 t))
