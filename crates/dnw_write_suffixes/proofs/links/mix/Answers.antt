use Rattle.std.proofs.Common.{◌∙◌, refl}
use Rattle.dnw_write_suffixes.proofs.Mixing.{mix_eight}
use Rattle.dnw_write_suffixes.proofs.links.mix.Goals as goal

pub loop-left-preserved : goal.loop-left-preserved
loop-left-preserved c = record {
  small = c.stir-mixed.ensures.small;
  same = rw (c.stir-mixed.ensures.value, c.four.ensures.value, c.four-in-len8-up.ensures.value)
      (mix_eight c.loop-left.mixed _ c.loop-left.left.now c.in-len8-up.len_at_least refl ∙ c.loop-left.invariant.same);
}
