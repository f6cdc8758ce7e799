use Rattle.std.proofs.lemmas.Result.{IfOk-weaker}
use Rattle.dnw_message_read.proofs.InTurn.{item_passed}
use Rattle.dnw_message_read.proofs.Pointed.{passed_on}
use Rattle.dnw_message_read.proofs.passing.pass_item.Goals as goal

pub returns-clause-ok : goal.returns-clause-ok
returns-clause-ok c =
    IfOk-weaker c.pass_rest.result _ _ (λ found h. item_passed c.args.section c.args.reader.now c.pass_name.new.reader c.pass_rest.new.reader _ _ found
    c.in_ok-pass_name.ensures.ok.1 h.0 h.1 h.2) c.pass_rest.ensures.ok

pub returns-clause-known : goal.returns-clause-known
returns-clause-known c = passed_on c.pass_rest.result c.args.section c.pass_name.new.reader c.pass_rest.new.reader _ c.in_ok-pass_name.ensures.known c.pass_rest.ensures.ok
