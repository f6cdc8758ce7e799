use Rattle.std.proofs.Common.{get_or, ◌==◌, ℕ, refl, arith}
use Rattle.std.proofs.lemmas.Bool.{agree_below_at}
use Rattle.dnw_name_text.specs.PlainNames.{is_own_octet}
use Rattle.dnw_name_text.specs.declared.plain.TheConstants.{OWN}
use Rattle.dnw_name_text.proofs.plain.is_own.Goals as goal

-- the table has each octet
pub returns : goal.returns
unfolding is_own_octet
returns c = agree_below_at (λ (o : ℕ). get_or OWN o 0 == 1) is_own_octet 256 c.args.octet refl (omega arith)
