use Rattle.std.specs.Bool.{one_answer}
use Rattle.dnw_base.specs.Names.{lower}
use Rattle.dnw_name_order.specs.Order.{labels_eq}
use Rattle.dnw_message_writer.proofs.Owners.{labels_Decides}
use Rattle.dnw_message_writer.proofs.halves.are_one_name.Goals as goal

pub returns : goal.returns
returns c =
    one_answer c.are_alike.result (labels_eq (lower c.args.some.now) (lower c.args.other.now)) c.are_alike.ensures
    (labels_Decides (lower c.args.some.now) (lower c.args.other.now))
