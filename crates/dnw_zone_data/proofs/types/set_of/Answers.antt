use Rattle.std.proofs.Common.{◌≡◌, List, length, subst, arith}
use Rattle.std.specs.Vec.Iter.{into_iter_len}
use Rattle.dnw_base.specs.declared.record_type.RecordType.{RecordType}
use Rattle.dnw_data.specs.TypeSets.{IsSetOf}
use Rattle.dnw_zone_data.proofs.TypeSteps.{vec_gave}
use Rattle.dnw_zone_data.proofs.types.set_of.Goals as goal

pub returns-in-Ok : goal.returns-in-Ok
returns-in-Ok c =
    let (it, listed, gives, drains, set, encodes) = c.in-Ok.ensures.ok in
    let len : into_iter_len it ≡ length c.args.listed.items = omega (arith, gives.1) in
    let same = vec_gave it c.args.listed.items listed gives.0 len drains in
    (c.in-Ok.set.types, subst (λ (l : List RecordType). IsSetOf l c.in-Ok.set.types) same set, encodes)
