use Rattle.std.proofs.Common.{◌==◌, cond, bit_or, ℕ, arith}
use Rattle.std.specs.Prelude.{nat_le}
use Rattle.std.proofs.lemmas.Simd.{zip2_of_maps, zip2_splat}
use Rattle.dnw_zone_data.specs.Inside.WordParts.{is_plain_stop}
use Rattle.dnw_zone_data.proofs.Lanes.{either_of_three_top, mask_of}
use Rattle.dnw_zone_data.proofs.words.plain_stops.Goals as goal

pub returns : goal.returns
returns c =
    let v = c.args.lanes in
    let size = c.fits-lanes.0 in
    let low : ℕ → ℕ = λ (o : ℕ). cond (nat_le o 41) 255 0 in
    let semicolon : ℕ → ℕ = λ (o : ℕ). cond (o == 59) 255 0 in
    let escape : ℕ → ℕ = λ (o : ℕ). cond (o == 92) 255 0 in
    let two = zip2_of_maps bit_or low semicolon v (zip2_splat (λ (a b : ℕ). cond (nat_le a b) 255 0) v 16 41 size) (zip2_splat (λ (a b : ℕ). cond (a == b) 255 0) v 16 59 size) in
    mask_of (λ (o : ℕ). bit_or (bit_or (low o) (semicolon o)) (escape o)) is_plain_stop (λ o. either_of_three_top (nat_le o 41) (o == 59) (o == 92)) v _ (omega (arith, size))
    (zip2_of_maps bit_or (λ (o : ℕ). bit_or (low o) (semicolon o)) escape v two (zip2_splat (λ (a b : ℕ). cond (a == b) 255 0) v 16 92 size))
