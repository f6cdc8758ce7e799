use Rattle.std.proofs.Common.{◌-◌, ◌≤◌, Bool, false, length}
use Rattle.dnw_message_writer.specs.ListResults.{at_offset}
use Rattle.dnw_message_writer.specs.Lists.{IsHalfListed}
use Rattle.dnw_message_writer.proofs.list.halves.is_half_listed.Given as goal

abbrev pub invariant-there : goal.invariant-there
invariant-there l =
    ((half : Bool) → IsHalfListed l.item l.more l.decoder l.half half → IsHalfListed l.item l.count (at_offset l.list l.start) false half)
    × (l.decoder.index ≤ length l.decoder.bytes)

abbrev pub decreases-there : goal.decreases-there
decreases-there l = length l.decoder.bytes - l.decoder.index
