use Rattle.std.proofs.Common.{◌≡◌, ◌+◌, ◌∙◌, length, arith}
use Rattle.dnw_zone_file.proofs.Generated.{line_fails, owned_is}
use Rattle.dnw_zone_file.proofs.generate.entry_with.Goals as goal

pub returns-in-Some-own_owner-clause-ok : goal.returns-in-Some-own_owner-clause-ok
returns-in-Some-own_owner-clause-ok c =
    owned_is c.record_of.result _ _ _ c.as_slice.result.now _ _ c.in-Some-own_owner.ensures (c.as_slice.ensures.value ∙ c.in-Ok.ensures)
    c.record_of.ensures.ok

pub returns-in-Some-own_owner-clause-err : goal.returns-in-Some-own_owner-clause-err
returns-in-Some-own_owner-clause-err c =
    let size : c.in-Some.len ≡ c.args.generate.data_at + length c.args.own.now = grind (arith, c.in-Some.ensures) in
    line_fails c.record_of.result c.args.context.now c.args.generate c.args.owner.now c.args.own.now c.as_slice.result.now c.in-Some.len
    c.record_of.new.context (c.as_slice.ensures.value ∙ c.in-Ok.ensures) size c.record_of.ensures.err
