use Rattle.std.proofs.Common.{get_or, ◌==◌, ℕ, refl, arith}
use Rattle.std.proofs.lemmas.Bool.{agree_below_at}
use Rattle.dnw_zone_data.specs.Inside.WordParts.{is_word_part}
use Rattle.dnw_zone_data.specs.declared.words.TheConstants.{CLASSES}
use Rattle.dnw_zone_data.proofs.words.is_word_part.Goals as goal

-- the table has each character
pub returns : goal.returns
unfolding is_word_part
returns c = agree_below_at (λ (o : ℕ). get_or CLASSES o 0 == 1) is_word_part 256 c.args.c refl (omega arith)
