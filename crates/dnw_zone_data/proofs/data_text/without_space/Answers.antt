use Rattle.std.proofs.Common.{◌≡◌, ◌<◌, ℕ, List, [], ◌∷◌, length, get_or, sym, ap, ◌∙◌, arith}
use Rattle.std.proofs.lemmas.Str.{IsCharBoundary-after_ascii}
use Rattle.dnw_zone_data.proofs.data_text.without_space.Goals as goal

some : (text : List ℕ) → get_or text 0 0 ≡ 32 → 0 < length text
some [] space = absurd (omega (arith, space))
some (c ∷ cs) space = omega arith

pub range_from-requires : goal.range_from-requires
range_from-requires c =
    let space : get_or c.args.text.now 0 0 ≡ 32 = ap (λ (xs : List ℕ). get_or xs 0 0) (sym c.as_bytes-bytes.ensures.value) ∙ c.if-bytes-eq32.true in
    λ _. IsCharBoundary-after_ascii c.args.text.now 0 c.utf8.text (some c.args.text.now space) (omega (arith, space))
