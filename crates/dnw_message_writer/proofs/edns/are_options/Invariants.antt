use Rattle.std.proofs.Common.{◌↔◌, length}
use Rattle.dnw_message_read.specs.Edns.{HasOptions}
use Rattle.dnw_message_writer.proofs.edns.are_options.Given as goal

abbrev pub invariant-options : goal.invariant-options
invariant-options l = HasOptions l.rest ↔ HasOptions l.octets

abbrev pub decreases-options : goal.decreases-options
decreases-options l = length l.rest
