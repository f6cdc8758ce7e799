use Rattle.std.proofs.Common.{◌≡◌, length}
use Rattle.dnw_message_writer.specs.Needs.{with_all_asked}
use Rattle.dnw_message_writer.proofs.missing.ask_all.Given as goal

abbrev pub invariant-queries : goal.invariant-queries
invariant-queries l = with_all_asked l.queries l.purpose ≡ with_all_asked l.fn.queries l.fn.purpose

abbrev pub decreases-queries : goal.decreases-queries
decreases-queries l = length l.queries
