use Rattle.std.proofs.Common.{ℕ, length}
use Rattle.std.specs.List.{AllByRecursion}
use Rattle.dnw_message_writer.specs.Copying.{HoldsFor, StandWhole, held_in}
use Rattle.dnw_message_writer.proofs.copying.held_octets.Given as goal

abbrev pub invariant-records : goal.invariant-records
invariant-records l =
    ((held : ℕ) → HoldsFor l.held (held_in l.records) held → HoldsFor 0 (held_in l.fn.records) held)
    × (AllByRecursion StandWhole (held_in l.fn.records) → AllByRecursion StandWhole (held_in l.records))

abbrev pub decreases-records : goal.decreases-records
decreases-records l = length l.records
