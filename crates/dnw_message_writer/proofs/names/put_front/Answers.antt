use Rattle.std.proofs.Common.{length, sym, ◌∙◌}
use Rattle.std.proofs.lemmas.Bool.{eqb-true}
use Rattle.dnw_message_writer.proofs.Puts.{put_nothing}
use Rattle.dnw_message_writer.proofs.names.put_front.Goals as goal

pub returns-then-is_empty : goal.returns-then-is_empty
returns-then-is_empty c =
    put_nothing c.args.message.now c.args.at c.args.octets.now (eqb-true (length c.args.octets.now) 0 (sym c.is_empty.ensures ∙ c.if-is_empty.true))
