use Rattle.std.proofs.Common.{ℕ, List, [], ◌++◌, refl, sym, ap, ◌∙◌, arith, append-nil, append_assoc, length-drop}
use Rattle.std.proofs.lemmas.List.{length-take}
use Rattle.dnw_zone_values.specs.Inside.Digits.{digits_octets}
use Rattle.dnw_zone_values.specs.Inside.Takes.{after}
use Rattle.dnw_zone_values.proofs.Groups.{after_nil}
use Rattle.dnw_zone_values.proofs.Base32Fours.{eight_more, none_in_first, none_in_last, number_below, octets_of, of_others, pushed}
use Rattle.dnw_zone_values.proofs.base32.push_base32.Goals as goal

pub loop-left-init : goal.loop-left-init
loop-left-init c = ([], after_nil (digits_octets c.args.text.now), sym (append-nil c.args.octets.now.items), omega arith)

pub overflow_cast-first : goal.overflow_cast-first
overflow_cast-first c = let few = number_below c.loop-left.left.now 0 c.in-Some.first (sym c.base32_number.ensures ∙ c.in-Some.is) in omega (arith, few)

pub overflow_cast-first-in-len8-up-2 : goal.overflow_cast-first-in-len8-up-2
overflow_cast-first-in-len8-up-2 c =
    let few = number_below c.loop-left.left.now 4 c.in-Some-base32_number.last (sym c.base32_number-in-len8-up.ensures ∙ c.in-Some-base32_number.is) in omega (arith, few)

pub loop-left-preserved : goal.loop-left-preserved
loop-left-preserved c =
    let (found, so_far, items, within) = c.loop-left.invariant in
    let own : List ℕ = octets_of c.in-Some.first c.in-Some-base32_number.last in (
      found ++ own,
      eight_more c.args.text.now c.loop-left.left.now found c.in-Some.first c.in-Some-base32_number.last _ c.in-len8-up.len_at_least refl so_far (sym c.base32_number.ensures ∙ c.in-Some.is)
          (sym c.base32_number-in-len8-up.ensures ∙ c.in-Some-base32_number.is),
      c.in_ok-extend_from_slice.ensures.items ∙ ap (λ (ys : List ℕ). ys ++ own) items ∙ append_assoc c.args.octets.now.items found own,
      omega (arith, length-take {A = ℕ}, length-drop {A = ℕ}, within),
    )

pub returns-in_default-base32_number-clause-ok : goal.returns-in_default-base32_number-clause-ok
returns-in_default-base32_number-clause-ok c =
    let (found, so_far, items, within) = c.loop-left.invariant in
    (none_in_first c.args.text.now c.loop-left.left.now found c.in-len8-up.len_at_least so_far (sym c.base32_number.ensures ∙ c.in_default-base32_number.is), (found, items))

pub returns-in_default-base32_number-2-clause-ok : goal.returns-in_default-base32_number-2-clause-ok
returns-in_default-base32_number-2-clause-ok c =
    let (found, so_far, items, within) = c.loop-left.invariant in (
      none_in_last c.args.text.now c.loop-left.left.now found c.in-Some.first c.in-len8-up.len_at_least so_far (sym c.base32_number.ensures ∙ c.in-Some.is)
          (sym c.base32_number-in-len8-up.ensures ∙ c.in_default-base32_number-2.is),
      (found, items),
    )

pub returns-then-not-is_base32-clause-ok : goal.returns-then-not-is_base32-clause-ok
returns-then-not-is_base32-clause-ok c =
    let (found, so_far, items, within) = c.loop-left.invariant in
    (so_far ∙ ap (after found) (of_others c.loop-left.left.now (c.is_base32.ensures.no c.if-not-is_base32.true)), (found, items))

pub returns-clause-ok : goal.returns-clause-ok
returns-clause-ok c =
    let (found, so_far, items, within) = c.loop-left.invariant in
    pushed c.push_last.result c.args.text.now c.loop-left.left.now found c.args.octets.now.items _ _ so_far items (c.is_base32.ensures.yes c.if-not-is_base32.false) c.push_last.ensures.ok
