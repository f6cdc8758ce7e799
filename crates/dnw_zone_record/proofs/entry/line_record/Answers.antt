use Rattle.std.proofs.Common.{refl, ap, ◌∙◌}
use Rattle.std.specs.Option.{option_copied}
use Rattle.dnw_zone_data.specs.Words.{after_word, word}
use Rattle.dnw_zone_record.proofs.EntryLines.{line_fails, line_is}
use Rattle.dnw_zone_record.proofs.entry.line_record.Goals as goal

pub returns-in-Ok-clause-ok : goal.returns-in-Ok-clause-ok
returns-in-Ok-clause-ok c =
    line_is (option_copied c.args.origin) c.args.text.now c.args.line.now c.split_word.result.0.now c.split_word.result.1.now c.in-Ok.octets.items
    (c.split_word.ensures.word ∙ ap word c.owner_on.ensures.is) (c.split_word.ensures.rest ∙ ap after_word c.owner_on.ensures.is) c.in-Ok.ensures.ok

pub returns-in-Err-clause-err : goal.returns-in-Err-clause-err
returns-in-Err-clause-err c = (
  c.in-Err.error,
  line_fails (option_copied c.args.origin) c.args.text.now c.args.line.now c.split_word.result.0.now c.split_word.result.1.now c.in-Err.error
      (c.split_word.ensures.word ∙ ap word c.owner_on.ensures.is) (c.split_word.ensures.rest ∙ ap after_word c.owner_on.ensures.is) c.in-Err.ensures.err,
  refl,
)
