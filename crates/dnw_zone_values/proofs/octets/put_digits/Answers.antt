use Rattle.std.proofs.Common.{ℕ, List, sym, refl, ◌∙◌, ◌+◌, ◌*◌, arith, get_or, length-drop}
use Rattle.std.proofs.lemmas.List.{length-take}
use Rattle.hex.proofs.HexLemmas.{decode_of-even}
use Rattle.dnw_zone_values.proofs.FourDigits.{four_parts, hexadecimal_below}
use Rattle.dnw_zone_values.proofs.HexFours.{all_put, last_put, none_last, none_left, pairs_some, two_more}
use Rattle.dnw_zone_values.proofs.octets.put_digits.Goals as goal

pub overflow_cast-room : goal.overflow_cast-room
overflow_cast-room c =
    let at = λ (i : ℕ). get_or c.loop-left.left.now i 0 in
    let pairs = pairs_some (at 0) (at 1) (at 2) (at 3) 0 0 c.in-Some.number _ _ _ _ (hexadecimal_below (at 0)) (hexadecimal_below (at 1)) (hexadecimal_below (at 2)) (hexadecimal_below (at 3)) (sym c.hexadecimal_number.ensures ∙ c.in-Some.is) in
    omega (arith, pairs.2)

pub loop-left-preserved : goal.loop-left-preserved
loop-left-preserved c =
    let xs : List ℕ = c.loop-left.left.now in
    let at = λ (i : ℕ). get_or xs i 0 in
    let len : ℕ = c.loop-left.len in
    let pairs = pairs_some (at 0) (at 1) (at 2) (at 3) (2 * len) (2 * len + 2) c.in-Some.number _ _ _ _ (hexadecimal_below (at 0)) (hexadecimal_below (at 1)) (hexadecimal_below (at 2)) (hexadecimal_below (at 3)) (sym c.hexadecimal_number.ensures ∙ c.in-Some.is) in
    record {
      gives = two_more _ c.loop-left.room xs _ len (at 0) (at 1) (at 2) (at 3) _ _ (omega arith) (four_parts xs _ c.in-len4-up.len_at_least refl) pairs.0 pairs.1 c.loop-left.invariant.gives;
      size = omega (arith, length-take {A = ℕ}, length-drop {A = ℕ});
    }

pub returns-in_default-hexadecimal_number-clause-no : goal.returns-in_default-hexadecimal_number-clause-no
returns-in_default-hexadecimal_number-clause-no c = λ no octets ok.
    let xs : List ℕ = c.loop-left.left.now in
    none_left _ _ xs _ (2 * c.loop-left.len) _ _ _ _ (four_parts xs _ c.in-len4-up.len_at_least refl) (sym c.hexadecimal_number.ensures ∙ c.in_default-hexadecimal_number.is) c.loop-left.invariant.gives octets
    (sym (decode_of-even c.args.text.now (omega arith)) ∙ ok)

pub returns-in_default-left-clause-yes : goal.returns-in_default-left-clause-yes
returns-in_default-left-clause-yes c = λ yes.
    all_put c.args.text.now c.loop-left.room c.loop-left.left.now c.loop-left.len (omega arith) (omega arith) (omega arith) c.loop-left.invariant.gives

pub returns-in_default-hexadecimal_number-2-clause-no : goal.returns-in_default-hexadecimal_number-2-clause-no
returns-in_default-hexadecimal_number-2-clause-no c = λ no.
    none_last c.args.text.now c.loop-left.room c.loop-left.left.now c.loop-left.len (omega arith) (omega arith) c.loop-left.invariant.gives (sym c.hexadecimal_number-2.ensures ∙ c.in_default-hexadecimal_number-2.is)

pub returns-clause-yes : goal.returns-clause-yes
returns-clause-yes c = λ yes.
    last_put c.args.text.now c.loop-left.room c.loop-left.left.now c.loop-left.len (omega arith) (omega arith) c.loop-left.invariant.gives c.in-Some-hexadecimal_number.number (omega arith)
    (sym c.hexadecimal_number-2.ensures ∙ c.in-Some-hexadecimal_number.is)
