-- A second record that comes last is not taken.
use Rattle.std.proofs.Common.{inr, sym, ◌∙◌}
use Rattle.dnw_message_writer.proofs.Opts.{if_err_as}
use Rattle.dnw_message_writer.proofs.list.items.scan_item.Goals as goal

pub returns-then-is_put_last-clause-err : goal.returns-then-is_put_last-clause-err
returns-then-is_put_last-clause-err c =
    if_err_as c.take.result _ _
    (λ failure second.
    inr (
      c.in_ok-record.record,
      c.read_record.new.decoder,
      (c.requires, c.in_ok-record.ensures.ok),
      sym c.is_put_last.ensures ∙ c.if-is_put_last.true,
      second.0,
      second.1,
    ))
    c.take.ensures.err
