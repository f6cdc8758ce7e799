use Rattle.std.proofs.Common.{ap, arith, sym, ◌∙◌, ◌++◌, List, ℕ, take}
use Rattle.std.proofs.lemmas.Bool.{eqb-true}
use Rattle.std.proofs.lemmas.List.{nil_from_length, take_at}
use Rattle.dnw_zone_values.proofs.Base64Fours.{with_fault, with_none, with_rest}
use Rattle.dnw_zone_values.proofs.octets.read_base64.Goals as goal

pub returns-then-is_empty : goal.returns-then-is_empty
returns-then-is_empty c =
    let (own, items, begins) = c.in_ok-left.ensures.ok in
    with_none _ own _ _ _ begins (nil_from_length _ (eqb-true _ _ (sym c.is_empty.ensures ∙ c.if-is_empty.true))) items

pub returns-in-Err : goal.returns-in-Err
returns-in-Err c =
    let (own, items, begins) = c.in_ok-left.ensures.ok in
    let (fails, same) = c.in-Err.ensures in
    (with_fault _ own _ _ begins fails, c.truncate.ensures.items ∙ ap (take c.len-start.result) (same ∙ items) ∙ take_at c.args.octets.now.items own c.len-start.result (omega arith))

pub returns : goal.returns
returns c =
    let (own, items, begins) = c.in_ok-left.ensures.ok in
    let (octets, is, more) = c.in_default.ensures in
    with_rest _ own _ _ _ octets begins is (more ∙ ap (λ (front : List ℕ). front ++ octets) items)
