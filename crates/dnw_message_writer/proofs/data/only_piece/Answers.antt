use Rattle.std.proofs.Common.{refl, arith}
use Rattle.std.proofs.lemmas.List.{append-nil}
use Rattle.dnw_message_writer.proofs.Splitting.{of_all}
use Rattle.dnw_message_writer.proofs.data.only_piece.Goals as goal

pub returns-then-are_data : goal.returns-then-are_data
returns-then-are_data c =
    of_all c.args.kinds.now c.args.octets.now _ (c.requires (omega (arith, c.if-record_type-gt-LAST_COMPRESSED.true))) (c.are_data.ensures.0 c.if-are_data.true)
    (append-nil c.args.octets.now) (λ at. refl)
