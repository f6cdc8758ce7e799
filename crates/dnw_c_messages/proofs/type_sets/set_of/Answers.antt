use Rattle.std.proofs.Common.{◌≡◌, List, length, subst, ◌∙◌, arith}
use Rattle.std.specs.Vec.Iter.{into_iter_len}
use Rattle.dnw_base.specs.declared.record_type.RecordType.{RecordType}
use Rattle.dnw_data.specs.TypeSets.{IsSetOf}
use Rattle.dnw_c_messages.proofs.TypeCodes.{vec_gave}
use Rattle.dnw_c_messages.proofs.type_sets.set_of.Goals as goal

pub returns-in-Ok-clause-ok : goal.returns-in-Ok-clause-ok
returns-in-Ok-clause-ok c =
    let (it, listed, gives, drains, set, encodes) = c.in-Ok.ensures.ok in
    let len : into_iter_len it ≡ length c.in_ok-types.types.items = omega (arith, gives.1) in
    let same = vec_gave it c.in_ok-types.types.items listed gives.0 len drains ∙ c.in_ok-types.ensures.ok in
    (subst (λ (l : List RecordType). IsSetOf l c.in-Ok.set.types) same set, encodes)
