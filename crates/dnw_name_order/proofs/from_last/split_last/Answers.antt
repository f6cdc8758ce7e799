use Rattle.std.proofs.Common.{refl, arith}
use Rattle.dnw_name_order.proofs.Lengths.{split_back}
use Rattle.dnw_name_order.proofs.from_last.split_last.Goals as goal

pub overflow_sub-end : goal.overflow_sub-end
overflow_sub-end c = let (fits, _) = split_back c.args.labels.now _ c.args.lengths c.requires.wire refl c.requires.lengths c.requires.known in omega (arith, fits)

pub slice_bounds-result-count : goal.slice_bounds-result-count
slice_bounds-result-count c = let (fits, _) = split_back c.args.labels.now _ c.args.lengths c.requires.wire refl c.requires.lengths c.requires.known in omega (arith, fits)

pub returns : goal.returns
returns c =
    let (_, splits) = split_back c.args.labels.now _ c.args.lengths c.requires.wire refl c.requires.lengths c.requires.known in
    rw c.split_at.ensures.back splits
