use Rattle.std.proofs.Common.{rules, ◌≡◌, ◌++◌, List, length, take, drop, sym, ap, ◌∙◌, subst, arith}
use Rattle.std.specs.List.Sorted.{IsNonDecreasingBy, IsPermutation}
use Rattle.std.proofs.lemmas.List.{take_at}
use Rattle.std.proofs.lemmas.List.Sorted.{IsPermutation-refl, IsNonDecreasingBy-from_sort_by_key}
use Rattle.dnw_zone_values.specs.Params.{ParamValue, Sorts}
use Rattle.dnw_zone_values.specs.Inside.Steps.{ascend}
use Rattle.dnw_zone_values.proofs.Sorting.{sorted_all, sorts}
use Rattle.dnw_zone_values.proofs.param.sort_params.Goals as goal

pub returns-then-are_ascending : goal.returns-then-are_ascending
returns-then-are_ascending c =
    let all : List ParamValue = c.args.params.now.items in
    sorted_all all all (IsPermutation-refl all) (ap (ascend 0) (sym c.as_slice.ensures.value) ∙ sym c.are_ascending.ensures ∙ c.if-are_ascending.true)

pub returns : goal.returns
returns c =
    let old : List ParamValue = c.args.params.now.items in
    let new : List ParamValue = c.sort_unstable_by_key.new.self in
    let back : take c.args.params.now.len (new ++ drop (length new) old) ≡ new =
    take_at new (drop (length new) old) c.args.params.now.len (omega (arith, c.sort_unstable_by_key.ensures.len, c.as_mut_slice.ensures.len)) in
    let moves : IsPermutation old new = subst (λ (xs : List ParamValue). IsPermutation xs new) c.as_mut_slice.ensures.value c.sort_unstable_by_key.ensures.permutation in
    let rising : IsNonDecreasingBy (λ (p : ParamValue). p.key) new = IsNonDecreasingBy-from_sort_by_key (λ (p : ParamValue). p.key) new c.sort_unstable_by_key.ensures.sorted (λ a r q k. search rules) in
    let up = c.are_ascending-2.ensures ∙ ap (ascend 0) (c.as_slice-2.ensures.value ∙ back) in
    subst (λ (xs : List ParamValue). Sorts old xs c.are_ascending-2.result) (sym back) (sorts old new c.are_ascending-2.result moves rising up)
