use Rattle.std.proofs.Common.{◌≡◌, List, ℕ, [], None, Some, sym, ap, ◌∙◌}
use Rattle.dnw_zone_values.specs.declared.lists.ListValue.TheVariants.{Keys}
use Rattle.dnw_zone_values.specs.Params.{in_key_order}
use Rattle.dnw_zone_values.specs.ParamWords.{keys_of}
use Rattle.dnw_zone_values.proofs.Steps.{one_list}
use Rattle.dnw_zone_values.proofs.values.mandatory_of.Goals as goal

pub returns-in_default : goal.returns-in_default
returns-in_default c = λ own is. let none = rw c.in_default.is at c.in_ok-listed.ensures in none is.0 is.2

pub returns-in_default-2 : goal.returns-in_default-2
returns-in_default-2 c = λ own is.
    let none = rw c.in_default-2.is at c.in_ok-keys.ensures in
    let listed = rw c.in-Some.is at c.in_ok-listed.ensures in
    let same : is.0 ≡ c.in-Some.listed.items = one_list Keys c.args.value.now is.0 c.in-Some.listed.items is.2 listed in
    let no : None ≡ Some is.1 = sym none ∙ ap (λ (xs : List ℕ). in_key_order [] (keys_of xs)) (c.as_slice.ensures.value ∙ sym same) ∙ is.3 in
    cc
