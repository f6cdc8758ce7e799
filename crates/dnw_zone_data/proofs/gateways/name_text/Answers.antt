use Rattle.std.proofs.Common.{[], sym, ◌∙◌, append-nil}
use Rattle.dnw_base.specs.Names.{wire}
use Rattle.dnw_zone_data.proofs.Empty.{not_empty}
use Rattle.dnw_zone_data.proofs.NameFronts.{one_front}
use Rattle.dnw_zone_data.proofs.gateways.name_text.Goals as goal

pub returns-in_default : goal.returns-in_default
returns-in_default c = λ labels are e. c.in_default.ensures labels [] are (e ∙ sym (append-nil (wire labels)))

pub returns-then-not-is_empty : goal.returns-then-not-is_empty
returns-then-not-is_empty c =
    λ labels are e.
    let some = not_empty c.in-Some.rest.now _ c.is_empty.ensures c.if-not-is_empty.true in
    some (one_front c.args.own.now c.in-Some.name labels c.in-Some.rest.now [] c.in-Some.ensures.0 are c.in-Some.ensures.1 (e ∙ sym (append-nil (wire labels)))).1
