use Rattle.std.proofs.Common.{◌≡◌, Bool, true, false, ℕ, List, ◌++◌, refl}
use Rattle.dnw_base.specs.Names.{wire}
use Rattle.dnw_data.specs.FieldWires.{AppendsWire}
use Rattle.dnw_data.specs.Values.{name}
use Rattle.dnw_record.specs.DataPieces.{name_piece}
use Rattle.dnw_record.proofs.rdata.copy_name.Goals as goal

appended : (labels : List (List ℕ)) (old new : List ℕ) (whole : Bool) → AppendsWire (name labels) old new whole → new ≡ old ++ wire labels
appended labels old new true is = is
appended labels old new false is = absurd is.0

pub returns-clause-ok : goal.returns-clause-ok
returns-clause-ok c =
    let (k, takes) = c.in-Ok.ensures.ok in
    let some = c.in-Ok.name in
    (name_piece c.args.form some, (some, k, takes, refl), appended some _ _ _ c.in_ok-append_to.ensures.appends)
