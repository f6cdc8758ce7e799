use Rattle.std.proofs.Common.{get_or, ◌==◌, not, ℕ, refl, arith}
use Rattle.std.proofs.lemmas.Bool.{agree_below_at}
use Rattle.dnw_zone_data.specs.Words.{is_plain_octet}
use Rattle.dnw_zone_data.specs.declared.words.TheConstants.{CLASSES}
use Rattle.dnw_zone_data.proofs.words.is_plain_octet.Goals as goal

-- the table has each character
pub returns : goal.returns
returns c = agree_below_at (λ (o : ℕ). not (get_or CLASSES o 0 == 0)) is_plain_octet 256 c.args.c refl (omega arith)
