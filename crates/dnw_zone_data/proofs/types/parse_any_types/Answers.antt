use Rattle.std.proofs.Common.{List, ℕ, refl, sym, subst}
use Rattle.dnw_data.specs.declared.kind.ListKind.TheVariants as lists
use Rattle.dnw_data.specs.Values.{types, items}
use Rattle.dnw_zone_data.specs.TypeLists.{AreBitmap}
use Rattle.dnw_zone_data.proofs.types.parse_any_types.Goals as goal

pub returns : goal.returns
returns c =
    let own : List ℕ = c.as_bytes.result.now in
    let listed = rw c.in-Some.is at c.in_ok-listed.ensures in
    let bitmap = subst (AreBitmap c.in-Some.listed.items) (sym c.as_bytes.ensures) c.in_ok-set.ensures in
    (types (items lists.Types own), (c.in-Some.listed.items, own, listed, bitmap, refl), c.in_ok-extend_from_slice.ensures.items)
