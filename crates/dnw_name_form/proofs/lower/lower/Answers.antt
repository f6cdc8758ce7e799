use Rattle.std.proofs.Common.{◌≡◌, ℕ, ◌<◌, map, get_or, refl, ap, ◌∙◌, arith}
use Rattle.std.proofs.lemmas.List.FromFn.{get_or-map-range_with_len}
use Rattle.std.specs.Char.{to_ascii_lowercase}
use Rattle.std.specs.List.{range_with_len}
use Rattle.dnw_name_form.specs.declared.lower.TheConstants.{LOWER}
use Rattle.dnw_name_form.proofs.lower.lower.Goals as goal

-- the table has each octet in lower case
table_is : LOWER ≡ map to_ascii_lowercase (range_with_len 0 256)
table_is = refl

pub returns : goal.returns
returns c =
    ap (λ t. get_or t c.args.octet 0) table_is
    ∙ get_or-map-range_with_len to_ascii_lowercase 0 256 c.args.octet c.args.octet 0 (omega arith) (omega arith)
