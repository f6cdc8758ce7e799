use Rattle.std.proofs.Common.{◌≡◌, IfOk, ap, ◌∙◌, subst}
use Rattle.std.specs.Option.{option_copied}
use Rattle.dnw_zone_record.specs.RecordLines.{IsRecordLine, IsRecordOf}
use Rattle.dnw_zone_data.specs.Words.{after_word, word}
use Rattle.dnw_zone_record.proofs.record_line.parse_record.Goals as goal

pub returns-clause-ok : goal.returns-clause-ok
unfolding IsRecordLine
returns-clause-ok c =
    let line = c.args.line.now in
    let first : c.split_word.result.0.now ≡ word line = c.split_word.ensures.word ∙ ap word c.as_bytes.ensures.value in
    let rest : c.split_word.result.1.now ≡ after_word line = c.split_word.ensures.rest ∙ ap after_word c.as_bytes.ensures.value in
    let origin = option_copied c.args.origin in
    subst (λ x. IfOk c.record_of.result (λ own. IsRecordOf origin x (after_word line) own.items)) first
    (subst (λ x. IfOk c.record_of.result (λ own. IsRecordOf origin c.split_word.result.0.now x own.items)) rest c.record_of.ensures.ok)
