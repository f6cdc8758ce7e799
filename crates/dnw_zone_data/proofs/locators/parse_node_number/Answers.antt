use Rattle.std.proofs.Common.{List, ℕ, ◌++◌, refl, ap, ◌∙◌}
use Rattle.dnw_data.specs.Values.{u64}
use Rattle.dnw_zone_data.proofs.locators.parse_node_number.Goals as goal

pub returns : goal.returns
returns c =
    let n : ℕ = c.in-Some.number in
    (u64 n, (n, c.in-Some.ensures, refl), c.in_ok-extend_from_slice.ensures.items ∙ ap (λ (xs : List ℕ). c.args.out.now.items ++ xs) c.to_be_bytes.ensures)
