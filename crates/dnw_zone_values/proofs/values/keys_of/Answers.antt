use Rattle.std.proofs.Common.{◌++◌, ◌∷◌, [], List, sym, ap, ◌∙◌, append_assoc, append-nil}
use Rattle.dnw_zone_values.specs.Params.{ParamValue}
use Rattle.dnw_zone_values.specs.ParamWords.{keys_of}
use Rattle.dnw_zone_values.proofs.Steps.{key_more, keys_end}
use Rattle.dnw_zone_values.proofs.values.keys_of.Goals as goal

pub loop-key-preserved : goal.loop-key-preserved
loop-key-preserved c =
    let (a, b, e, k) = c.in-Some.ensures.some in
    let rest = keys_of c.in-Some.rest.now in
    ap (λ (xs : List ParamValue). xs ++ rest) c.in_ok-push.ensures.items
    ∙ append_assoc c.loop-key.keys.items (c.key_alone.result ∷ []) rest
    ∙ ap (λ (p : ParamValue). c.loop-key.keys.items ++ p ∷ rest) c.key_alone.ensures
    ∙ ap (λ (xs : List ParamValue). c.loop-key.keys.items ++ xs) (sym (key_more c.in-Some.key a b c.loop-key.left.now c.in-Some.rest.now e k))
    ∙ c.loop-key.invariant

pub returns : goal.returns
returns c =
    sym (append-nil c.loop-key.keys.items)
    ∙ ap (λ (xs : List ParamValue). c.loop-key.keys.items ++ xs) (sym (keys_end c.loop-key.left.now c.in_default.ensures.none))
    ∙ c.loop-key.invariant
