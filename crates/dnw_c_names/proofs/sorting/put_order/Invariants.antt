use Rattle.std.proofs.Common.{◌≡◌, take}
use Rattle.dnw_name_read.specs.Buffers.{put}
use Rattle.dnw_c_names.proofs.sorting.put_order.Given as goal

abbrev pub invariant-loop-i : goal.invariant-loop-i
invariant-loop-i l = l.order ≡ put l.fn.order (take l.i l.fn.sorted)
