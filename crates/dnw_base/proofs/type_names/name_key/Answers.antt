use Rattle.std.proofs.Common.{ℕ, ◌≡◌, ◌+◌, ◌*◌, drop, get_or, refl, sym, ap, ◌∙◌, arith}
use Rattle.std.proofs.lemmas.List.{at_drop_more}
use Rattle.dnw_base.specs.Inside.TypeKeys.{letters_after}
use Rattle.dnw_base.proofs.TypeKeys.{bound_fits, more_letters}
use Rattle.dnw_base.proofs.type_names.name_key.Goals as goal

pub loop-i-init : goal.loop-i-init
loop-i-init c = (omega arith, refl)

pub overflow_mul-letters : goal.overflow_mul-letters
overflow_mul-letters c = omega (arith, c.loop-i.invariant.0, bound_fits c.loop-i.i)

pub overflow_add-letters : goal.overflow_add-letters
overflow_add-letters c = omega (arith, c.loop-i.invariant.0, bound_fits c.loop-i.i)

pub loop-i-preserved : goal.loop-i-preserved
loop-i-preserved c =
    let name = c.args.name.now in
    let i = c.loop-i.i in
    let n = c.loop-i.letters in
    rw (c.from.ensures ∙ c.to_ascii_lowercase.ensures.value) (
      more_letters i n (get_or name i 0) c.loop-i.invariant.0 (omega (arith, c.type_inv.name i)),
      sym (at_drop_more (letters_after n) name i 0 c.loop-i-test.true) ∙ c.loop-i.invariant.1,
    )

pub overflow_mul-result : goal.overflow_mul-result
overflow_mul-result c = omega (arith, c.loop-i.invariant.0, bound_fits c.loop-i.i)

pub overflow_add-result : goal.overflow_add-result
overflow_add-result c = omega (arith, c.loop-i.invariant.0, bound_fits c.loop-i.i)
