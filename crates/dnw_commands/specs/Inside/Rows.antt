-- Rows of sort keys: the numbers of the records that they are of.
use Rattle.std.specs.Prelude.{ℕ, List, map}
use Rattle.dnw_commands.specs.declared.zones.sorting.Row.{Row}

-- the numbers of rows
abbrev pub numbers : List Row → List ℕ
numbers rows = map (λ row. row.number) rows
