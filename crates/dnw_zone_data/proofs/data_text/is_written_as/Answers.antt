use Rattle.dnw_zone_data.proofs.Wires.{is_plain, not_plain}
use Rattle.dnw_zone_data.proofs.data_text.is_written_as.Goals as goal

pub returns-then-not-are_fields : goal.returns-then-not-are_fields
returns-then-not-are_fields c = not_plain _ c.args.octets.now c.args.written.now c.args.are_fields c.if-not-are_fields.true c.requires.bytes c.requires.appends

pub returns : goal.returns
returns c = is_plain _ c.args.octets.now c.args.written.now c.args.are_fields c.eq.result c.if-not-are_fields.false c.requires.appends c.eq.ensures
