use Rattle.std.proofs.Common.{ℕ, refl, sym, ◌∙◌, arith, length-drop}
use Rattle.std.proofs.lemmas.List.{length-take}
use Rattle.dnw_zone_values.proofs.Base64Fours.{groups_more}
use Rattle.dnw_zone_values.proofs.octets.put_groups.Goals as goal

pub loop-left-preserved : goal.loop-left-preserved
loop-left-preserved c = record {
  begins = groups_more _ _ c.loop-left.left.now c.loop-left.len c.in-Some.number _ c.in-len4-up.len_at_least refl (omega arith) (omega arith) (omega arith) (omega arith) (sym c.base64_number.ensures ∙ c.in-Some.is) (omega arith) c.loop-left.invariant.begins;
  size = omega (arith, length-take {A = ℕ}, length-drop {A = ℕ});
}
