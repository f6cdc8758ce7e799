use Rattle.std.proofs.Common.{◌≡◌, ◌-◌, ◌+◌, ◌*◌, ◌/◌, suc, length, refl, sym, ap, ◌∙◌, arith}
use Rattle.dnw_message_writer.specs.Hints.{eight_at, eights_from, mixed_eight}
use Rattle.dnw_message_writer.proofs.hints.hash_of_eights.Goals as goal

pub eights-preserved : goal.eights-preserved
eights-preserved c =
    let form = c.args.form.now in
    let i = c.eights.index in
    let n = length form / 8 in
    let more : n - i ≡ suc (n - (i + 1)) = omega (arith, c.eights-test.true) in
    let moved : 8 * i + 8 ≡ 8 * (i + 1) = omega arith in
    let hash : mixed_eight c.eights.hash (eight_at form (8 * i)) ≡ c.mixed_eight-hash.result =
    ap (mixed_eight c.eights.hash) (sym c.eight_at.ensures) ∙ sym c.mixed_eight-hash.ensures in
    record {
      inside = omega (arith, c.eights-test.true);
      count_is = refl;
      so_far = c.eights.invariant.so_far
          ∙ (ap (λ k. eights_from k (8 * i) form c.eights.hash) more
          ∙ (ap (λ p. eights_from (n - (i + 1)) p form (mixed_eight c.eights.hash (eight_at form (8 * i)))) moved
          ∙ ap (eights_from (n - (i + 1)) (8 * (i + 1)) form) hash));
    }
