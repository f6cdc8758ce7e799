use Rattle.std.proofs.Common.{refl}
use Rattle.dnw_record.specs.DataPieces.{name_piece}
use Rattle.dnw_signed.proofs.fields.put_name.Goals as goal

pub returns-clause-ok : goal.returns-clause-ok
returns-clause-ok c =
    (name_piece c.args.form c.in-Ok.name, (c.in-Ok.name, _, c.in-Ok.ensures.ok.0, refl), c.in_ok-append_name.ensures.ok)
