use Rattle.std.proofs.Common.{List, ℕ, ◌++◌, refl, ap, ◌∙◌}
use Rattle.std.specs.Int.{w16, to_be_bytes}
use Rattle.dnw_data.specs.Values.{type_code}
use Rattle.dnw_zone_data.proofs.types.parse_type.Goals as goal

pub returns : goal.returns
returns c = (
  type_code c.in-Some.code,
  (c.in-Some.code, c.in-Some.ensures, refl),
  c.in_ok-extend_from_slice.ensures.items ∙ ap (λ (xs : List ℕ). c.args.out.now.items ++ xs) (c.to_be_bytes.ensures ∙ ap (to_be_bytes w16) c.from.ensures),
)
