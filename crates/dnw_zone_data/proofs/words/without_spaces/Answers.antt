use Rattle.std.proofs.Common.{◌∙◌, ◌++◌, List, ℕ, ap, arith, length, take}
use Rattle.std.specs.List.{filter}
use Rattle.dnw_zone_data.specs.Words.{is_no_space}
use Rattle.dnw_zone_data.proofs.Empty.{not_empty}
use Rattle.dnw_zone_data.proofs.Spaces.{kept_after, kept_more, run_shrinks}
use Rattle.dnw_zone_data.proofs.words.without_spaces.Goals as goal

pub runs-init : goal.runs-init
runs-init c =
    ap (λ (l : List ℕ). l ++ filter is_no_space c.after_spaces-left.result.now) c.in_ok-joined.ensures.items
    ∙ ap (filter is_no_space) c.after_spaces-left.ensures.rest ∙ kept_after c.args.text.now

pub runs-smaller : goal.runs-smaller
runs-smaller c =
    let left = c.runs.left.now in
    let some = not_empty left _ c.is_empty.ensures c.runs-test.true in
    omega (arith, run_shrinks left c.from_space-others.result.now some c.from_space-others.ensures.rest, ap (λ (l : List ℕ). length l) c.after_spaces-left-in-runs.ensures.rest)

pub runs-preserved : goal.runs-preserved
runs-preserved c =
    let left = c.runs.left.now in
    let others = c.from_space-others.result.now in
    ap (λ (l : List ℕ). c.extend_from_slice.new.self.items ++ filter is_no_space l) c.after_spaces-left-in-runs.ensures.rest
    ∙ kept_more _ c.runs.joined.items c.extend_from_slice.new.self.items left others _ c.runs.invariant (ap (λ (k : ℕ). take k left) c.from_space-others.ensures.count)
    c.from_space-others.ensures.rest c.in_ok-extend_from_slice.ensures.items
