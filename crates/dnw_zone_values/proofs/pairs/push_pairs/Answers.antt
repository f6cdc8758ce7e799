use Rattle.std.proofs.Common.{ℕ, List, [], ◌∷◌, ◌++◌, refl, sym, ap, ◌∙◌, arith, append-nil, append_assoc, length-drop}
use Rattle.std.proofs.lemmas.List.{length-take}
use Rattle.dnw_zone_values.specs.Pairs.{pairs_octets}
use Rattle.dnw_zone_values.proofs.Groups.{after_nil, pair_more}
use Rattle.dnw_zone_values.proofs.pairs.push_pairs.Goals as goal

pub loop-left-init : goal.loop-left-init
loop-left-init c = ([], after_nil (pairs_octets c.args.text.now), sym (append-nil c.args.octets.now.items), omega arith)

pub loop-left-preserved : goal.loop-left-preserved
loop-left-preserved c =
    let (found, so_far, items, within) = c.loop-left.invariant in
    let xs : List ℕ = c.loop-left.left.now in
    let o : ℕ = c.in-Some.octet in (
      found ++ o ∷ [],
      pair_more c.args.text.now xs found o _ c.in-len3-up.len_at_least refl so_far (sym c.in-Some.ensures) c.if-c-ne45.false,
      c.in_ok-push.ensures.items ∙ ap (λ (ys : List ℕ). ys ++ o ∷ []) items ∙ append_assoc c.args.octets.now.items found (o ∷ []),
      omega (arith, length-take {A = ℕ}, length-drop {A = ℕ}, within),
    )
