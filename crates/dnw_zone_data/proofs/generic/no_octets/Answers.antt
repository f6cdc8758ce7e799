use Rattle.std.proofs.Common.{◌≡◌, [], List, ℕ, Ok, length, sym, ap, ◌∙◌, subst, arith}
use Rattle.dnw_zone_data.specs.Generic.{AreHexWords}
use Rattle.dnw_zone_data.proofs.GenericText.{hex_words}
use Rattle.dnw_zone_data.proofs.generic.no_octets.Goals as goal

pub returns-then-size-eq0 : goal.returns-then-size-eq0
returns-then-size-eq0 c =
    let none : AreHexWords 0 [] [] = hex_words [] (λ i. omega arith) in
    subst (λ (xs : List ℕ). AreHexWords c.args.size [] xs) (sym c.new.ensures.items) (subst (λ (n : ℕ). AreHexWords n [] []) (sym c.if-size-eq0.true) none)

pub returns-else-size-eq0 : goal.returns-else-size-eq0
returns-else-size-eq0 c = λ octets is.
    let none : Ok octets ≡ Ok [] = sym is.0 ∙ (hex_words [] (λ i. omega arith)).0 in
    let same : octets ≡ [] = cc in
    omega (arith, is.1, ap length same, c.if-size-eq0.false)
