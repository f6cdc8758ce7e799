-- No record is left.
use Rattle.std.proofs.Common.{drop, sym, ap, ◌∙◌}
use Rattle.std.proofs.Math.Seq.{drop-nil}
use Rattle.dnw_message_writer.proofs.missing.pass.Goals as goal

pub returns-in-None : goal.returns-in-None
returns-in-None c =
    c.in-None.ensures.over ∙ (sym (drop-nil c.records.left) ∙ (ap (drop c.records.left) (sym c.in-None.ensures.next) ∙ c.records.invariant))
