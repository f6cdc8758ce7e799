use Rattle.std.proofs.Common.{cond, ℕ, arith}
use Rattle.std.specs.Prelude.{nat_le}
use Rattle.std.proofs.lemmas.Simd.{zip2_splat}
use Rattle.dnw_zone_data.specs.Inside.WordParts.{is_low}
use Rattle.dnw_zone_data.proofs.Lanes.{mask_of, one_top}
use Rattle.dnw_zone_data.proofs.words.low_stops.Goals as goal

pub returns : goal.returns
returns c =
    let v = c.args.lanes in
    let size = c.fits-lanes.0 in
    let low : ℕ → ℕ → ℕ = λ (a b : ℕ). cond (nat_le a b) 255 0 in
    mask_of (λ (o : ℕ). low o 32) is_low (λ o. one_top (nat_le o 32)) v _ (omega (arith, size)) (zip2_splat low v 16 32 size)
