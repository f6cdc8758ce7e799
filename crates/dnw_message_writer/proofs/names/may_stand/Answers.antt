use Rattle.std.proofs.Common.{◌≡◌, ◌+◌, ◌<◌, length, get_or, sym, ap, ◌∙◌, arith}
use Rattle.std.proofs.lemmas.Grind.{common_steps}
use Rattle.dnw_base.specs.Names.{wire}
use Rattle.dnw_message_writer.proofs.Opening.{first_octet_is, second_octet_is}
use Rattle.dnw_message_writer.proofs.names.may_stand.Goals as goal

pub returns-then-message-start-2 : goal.returns-then-message-start-2
returns-then-message-start-2 c = λ no gap ls are form stands.
    let m = c.args.message.now in
    let p = c.args.start in
    let small : get_or m p 0 < 192 = omega (arith, c.if-message-start-ge-POINTER_BITS.false) in
    let zeroth : p + 0 ≡ p = omega arith in
    let same : get_or m p 0 ≡ get_or c.args.form.now 0 0 =
    ap (λ k. get_or m k 0) (sym zeroth) ∙ (first_octet_is m gap p ls stands small ∙ ap (λ x. get_or x 0 0) (sym form)) in
    omega (arith, same, c.if-message-start-2.true)

pub returns : goal.returns
returns c = λ other gap ls are form stands.
    let m = c.args.message.now in
    let p = c.args.start in
    let small : get_or m p 0 < 192 = omega (arith, c.if-message-start-ge-POINTER_BITS.false) in
    let long : 1 < length (wire ls) = omega (arith, c.if-form-lt2.false, ap length form) in
    let same : get_or m (p + 1) 0 ≡ get_or c.args.form.now 1 0 =
    second_octet_is m gap p ls are.each stands small long ∙ ap (λ x. get_or x 1 0) (sym form) in
    grind (arith, common_steps, other, same)
