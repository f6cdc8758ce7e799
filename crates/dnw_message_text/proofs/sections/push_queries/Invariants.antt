use Rattle.std.proofs.Common.{length}
use Rattle.std.specs.String.{string_bytes}
use Rattle.dnw_message_text.specs.MessageTexts.{IsQuestionPart}
use Rattle.dnw_message_text.proofs.Adding.{HasParts}
use Rattle.dnw_message_text.proofs.sections.push_queries.Given as goal

abbrev pub invariant-queries : goal.invariant-queries
invariant-queries l = HasParts IsQuestionPart l.fn.queries l.queries (string_bytes l.fn.text) (string_bytes l.text)

abbrev pub decreases-queries : goal.decreases-queries
decreases-queries l = length l.queries
