use Rattle.std.proofs.Common.{length}
use Rattle.std.specs.String.{string_bytes}
use Rattle.dnw_message_text.specs.MessageTexts.{IsOptionPart}
use Rattle.dnw_message_text.proofs.Adding.{HasParts}
use Rattle.dnw_message_text.proofs.edns.push_options.Given as goal

abbrev pub invariant-options : goal.invariant-options
invariant-options l = HasParts IsOptionPart l.fn.options l.options (string_bytes l.fn.text) (string_bytes l.text)

abbrev pub decreases-options : goal.decreases-options
decreases-options l = length l.options
