use Rattle.std.proofs.Common.{◌≡◌, [], ◌∷◌, ◌++◌, length, ap, sym, arith, ◌∙◌, append_assoc}
use Rattle.dnw_base.specs.Names.{encoded_size}
use Rattle.dnw_base.proofs.Wires.{length_wire}
use Rattle.dnw_name_order.proofs.Comparing.{no_front, past_first}
use Rattle.dnw_name_order.proofs.order.last_octets.Goals as goal

pub passed-preserved : goal.passed-preserved
passed-preserved c =
    let seen = c.passed.invariant in
    let size : length c.as_wire.result.now ≡ encoded_size c.passed.labels = ap length c.as_wire.ensures.form ∙ length_wire c.passed.labels in
    record {
      front = seen.front ++ c.in-Some.field-0.now ∷ [];
      last = seen.last ∙ (ap (λ ls. seen.front ++ ls) c.in-Some.ensures.steps ∙ sym (append_assoc seen.front (c.in-Some.field-0.now ∷ []) _));
      ends = λ before rest whole is.
          let (between, left) = seen.ends before rest whole is in
          past_first between rest _ _ _ left c.in-Some.ensures.steps (omega (arith, size, is));
    }

pub returns-clause-size : goal.returns-clause-size
returns-clause-size c front rest whole is =
    let size : length c.as_wire.result.now ≡ encoded_size c.passed.labels = ap length c.as_wire.ensures.form ∙ length_wire c.passed.labels in
    let (between, left) = c.passed.invariant.ends front rest whole is in
    no_front between rest c.passed.labels left (omega (arith, size, is))
