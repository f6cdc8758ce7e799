use Rattle.std.proofs.Common.{◌≡◌, [], None, Some, sym, ap, ◌∙◌}
use Rattle.dnw_zone_values.specs.Params.{in_key_order}
use Rattle.dnw_zone_data.proofs.ParamWalks.{one_params}
use Rattle.dnw_zone_data.proofs.params.params_of_words.Goals as goal

pub returns-in_default : goal.returns-in_default
returns-in_default c = λ listed own are _. let none = rw c.in_default.is at c.in_ok-params.ensures in none listed are

pub returns-then-sort_params : goal.returns-then-sort_params
returns-then-sort_params c =
    let words = rw c.in-Some.is at c.in_ok-params.ensures in
    (c.in-Some.params.items, words, rw c.if-sort_params.true at c.sort_params.ensures)

pub returns-else-sort_params : goal.returns-else-sort_params
returns-else-sort_params c = λ listed own are all.
    let words = rw c.in-Some.is at c.in_ok-params.ensures in
    let twice : in_key_order [] c.in-Some.params.items ≡ None = rw c.if-sort_params.false at c.sort_params.ensures in
    let no : None ≡ Some own = sym twice ∙ ap (in_key_order []) (one_params c.args.text.now c.in-Some.params.items listed words are) ∙ all in
    cc
