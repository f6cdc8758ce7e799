use Rattle.std.proofs.Common.{List, ℕ, [], ◌∷◌, ◌++◌, sym, ap, ◌∙◌, subst, arith}
use Rattle.dnw_zone_values.specs.Params.{ParamValue}
use Rattle.dnw_zone_values.specs.ParamWords.{IsParam}
use Rattle.dnw_zone_values.proofs.Steps.{word_some}
use Rattle.dnw_zone_data.specs.Words.{after_spaces, param_word}
use Rattle.dnw_zone_data.specs.Inside.ParamSteps.{LeadToParams}
use Rattle.dnw_zone_data.proofs.Empty.{is_empty, not_empty}
use Rattle.dnw_zone_data.proofs.ParamWalks.{params_more, params_end, params_stop}
use Rattle.dnw_zone_data.proofs.params.listed_params.Goals as goal

pub returns-in_default : goal.returns-in_default
returns-in_default c = λ listed are.
    let left : List ℕ = c.params.left.now in
    let no-param = rw c.in_default.is at c.in_ok-param.ensures.ok in
    let none : (p : ParamValue) → ¬ (IsParam (param_word left) p) = λ p is. no-param p (subst (λ (w : List ℕ). IsParam w p) (sym c.split_param.ensures.word) is) in
    params_stop c.args.text.now c.params.params.items listed left c.params.invariant (not_empty left _ c.is_empty.ensures c.params-test.true) none are

pub params-preserved : goal.params-preserved
params-preserved c =
    let left : List ℕ = c.params.left.now in
    let done : List ParamValue = c.params.params.items in
    let found = rw c.in-Some.is at c.in_ok-param.ensures.ok in
    let p : ParamValue = c.in-Some.param in
    let is : IsParam (param_word left) p = subst (λ (w : List ℕ). IsParam w p) c.split_param.ensures.word found in
    let more = params_more c.args.text.now done left p c.params.invariant (not_empty left _ c.is_empty.ensures c.params-test.true) is in
    let rest = c.after_spaces-left-in-params.ensures.rest ∙ ap after_spaces c.split_param.ensures.rest in
    subst (λ (ps : List ParamValue). LeadToParams c.args.text.now ps c.after_spaces-left-in-params.result.now) (sym c.in_ok-push.ensures.items)
    (subst (LeadToParams c.args.text.now (done ++ p ∷ [])) (sym rest) more)

pub params-smaller : goal.params-smaller
params-smaller c =
    let found = rw c.in-Some.is at c.in_ok-param.ensures.ok in
    let some = word_some c.split_param.result.0.now c.in-Some.param found in
    omega (arith, some, c.split_param.ensures.whole, c.after_spaces-left-in-params.ensures.within)

pub returns : goal.returns
returns c = params_end c.args.text.now c.params.params.items c.params.left.now c.params.invariant (is_empty c.params.left.now _ c.is_empty.ensures c.params-test.false)
