use Rattle.std.proofs.Common.{◌≡◌, true, false, List, ℕ, sym, ap, ◌∙◌, subst, arith, decimal}
use Rattle.std.proofs.lemmas.Slice.Eq.{bytes_eq-Decides}
use Rattle.dnw_zone_values.specs.Numbers.{max_u16, IsNumberText}
use Rattle.dnw_zone_values.proofs.ComeBack.{numbers}
use Rattle.dnw_zone_values.proofs.Steps.{digits_of}
use Rattle.dnw_zone_values.proofs.keys.generic_key.Goals as goal

pub returns-in_default : goal.returns-in_default
returns-in_default c = λ key is.
    let cut = c.in_ok-digits.ensures.cases in
    let same = digits_of c.args.text.now c.in_ok-digits.digits.now cut.0 key cut.1.0 cut.2 is.1 in
    c.in_default.ensures.1 key (subst (λ (d : List ℕ). IsNumberText max_u16 d key) (sym same) (numbers max_u16 (omega arith) key is.0).0)

pub returns-else-eq : goal.returns-else-eq
returns-else-eq c = λ key is.
    let cut = c.in_ok-digits.ensures.cases in
    let same = digits_of c.args.text.now c.in_ok-digits.digits.now cut.0 key cut.1.0 cut.2 is.1 in
    let one : c.in-Ok.key ≡ key = (numbers max_u16 (omega arith) key is.0).1 c.in-Ok.key (subst (λ (d : List ℕ). IsNumberText max_u16 d c.in-Ok.key) same c.in-Ok.ensures) in
    let both : c.format.result.now ≡ c.in_ok-digits.digits.now = c.format.ensures.text ∙ ap decimal one ∙ sym same in
    let yes = (bytes_eq-Decides c.format.result.now c.in_ok-digits.digits.now).1 both in
    let no : false ≡ true = c.if-eq.ensures ∙ yes in cc
