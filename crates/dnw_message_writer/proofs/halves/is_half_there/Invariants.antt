use Rattle.std.proofs.Common.{◌≡◌, take}
use Rattle.dnw_message_writer.specs.Copying.{sets_of}
use Rattle.dnw_message_writer.specs.Needs.{is_half_after, is_half_there}
use Rattle.dnw_message_writer.proofs.halves.is_half_there.Given as goal

abbrev pub invariant-there : goal.invariant-there
invariant-there l =
    is_half_after l.half (take l.more (sets_of l.section l.there)) l.left ≡ is_half_there (take l.count (sets_of l.section l.fn.there)) l.left

abbrev pub decreases-there : goal.decreases-there
decreases-there l = l.more
