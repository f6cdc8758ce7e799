use Rattle.std.proofs.Common.{◌≡◌, true, false, ◌++◌, List, ℕ, refl, sym, ap, ◌∙◌, arith}
use Rattle.dnw_data.specs.declared.kind.ListKind.TheVariants as lists
use Rattle.dnw_data.specs.Values.{params, items}
use Rattle.dnw_zone_values.specs.Mandatory.{keeps_mandatory}
use Rattle.dnw_zone_values.specs.Params.{ParamValue, params_wire}
use Rattle.dnw_zone_data.proofs.ParamWalks.{appended, not_kept}
use Rattle.dnw_zone_data.proofs.params.parse_params.Goals as goal

pub returns-then-keeps_mandatory : goal.returns-then-keeps_mandatory
returns-then-keeps_mandatory c =
    let old : List ℕ = c.args.out.now.items in
    let own : List ParamValue = c.in-Some.params.items in
    let (listed, words, all) = rw c.in-Some.is at c.in_ok-params.ensures in
    let pushed = c.in_ok-push_params.ensures.ok ∙ ap (λ (ps : List ParamValue). old ++ params_wire ps) c.as_slice.ensures.value in
    let mine = appended old (params_wire own) c.as_slice-2.result.now c.len-start.result (omega (arith, c.len-start.ensures)) (c.as_slice-2.ensures.value ∙ pushed) in
    let kept : keeps_mandatory (params_wire own) ≡ true = sym (c.keeps_mandatory.ensures ∙ ap keeps_mandatory mine) ∙ c.if-keeps_mandatory.true in
    (params (items lists.Params (params_wire own)), (listed, own, words, all, kept, refl), pushed)

pub returns : goal.returns
returns c =
    let old : List ℕ = c.args.out.now.items in
    let own : List ParamValue = c.in-Some.params.items in
    let (listed, words, all) = rw c.in-Some.is at c.in_ok-params.ensures in
    let pushed = c.in_ok-push_params.ensures.ok ∙ ap (λ (ps : List ParamValue). old ++ params_wire ps) c.as_slice.ensures.value in
    let mine = appended old (params_wire own) c.as_slice-2.result.now c.len-start.result (omega (arith, c.len-start.ensures)) (c.as_slice-2.ensures.value ∙ pushed) in
    let lacks : keeps_mandatory (params_wire own) ≡ false = sym (c.keeps_mandatory.ensures ∙ ap keeps_mandatory mine) ∙ c.if-keeps_mandatory.false in
    not_kept c.args.text.now listed own words all lacks
