use Rattle.std.proofs.Common.{length}
use Rattle.std.specs.String.{string_bytes}
use Rattle.dnw_message_text.specs.MessageTexts.{IsRecordPart}
use Rattle.dnw_message_text.proofs.Adding.{HasParts}
use Rattle.dnw_message_text.proofs.sections.push_records.Given as goal

abbrev pub invariant-records : goal.invariant-records
invariant-records l = HasParts (IsRecordPart l.fn.hides_opt) l.fn.records l.records (string_bytes l.fn.text) (string_bytes l.text)

abbrev pub decreases-records : goal.decreases-records
decreases-records l = length l.records
