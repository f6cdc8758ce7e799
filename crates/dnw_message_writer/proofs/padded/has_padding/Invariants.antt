use Rattle.std.proofs.Common.{◌≡◌, length}
use Rattle.dnw_message_writer.specs.Padded.{has_padding}
use Rattle.dnw_message_writer.proofs.padded.has_padding.Given as goal

abbrev pub invariant-options : goal.invariant-options
invariant-options l = has_padding l.options ≡ has_padding l.fn.options

abbrev pub decreases-options : goal.decreases-options
decreases-options l = length l.options
