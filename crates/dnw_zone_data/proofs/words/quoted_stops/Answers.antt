use Rattle.std.proofs.Common.{◌==◌, cond, bit_or, ℕ, arith}
use Rattle.std.proofs.lemmas.Simd.{zip2_of_maps, zip2_splat}
use Rattle.dnw_zone_data.specs.Inside.WordParts.{is_quoted_stop}
use Rattle.dnw_zone_data.proofs.Lanes.{either_top, mask_of}
use Rattle.dnw_zone_data.proofs.words.quoted_stops.Goals as goal

pub returns : goal.returns
returns c =
    let v = c.args.lanes in
    let size = c.fits-lanes.0 in
    let same : ℕ → ℕ → ℕ = λ (a b : ℕ). cond (a == b) 255 0 in
    mask_of (λ (o : ℕ). bit_or (same o 34) (same o 92)) is_quoted_stop (λ o. either_top (o == 34) (o == 92)) v _ (omega (arith, size))
    (zip2_of_maps bit_or (λ (o : ℕ). same o 34) (λ (o : ℕ). same o 92) v (zip2_splat same v 16 34 size) (zip2_splat same v 16 92 size))
