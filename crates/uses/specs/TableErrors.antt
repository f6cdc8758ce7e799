-- Why a name is not added to a table.
use Rattle.std.specs.Prelude.{List, ℕ}
use Rattle.uses.specs.declared.table.PushError.{PushError}
use Rattle.uses.specs.declared.table.PushError.TheVariants.{NotLast, NoRoom, Memory}
use Rattle.uses.specs.Tables.{ComesLast, TableHasRoom}

-- The order is tested first, and then the room.
abbrev pub IsRefused : List (List (List ℕ)) → List (List ℕ) → PushError → Type 0
IsRefused names ls NotLast = ¬ (ComesLast names ls)
IsRefused names ls NoRoom = ComesLast names ls × (¬ (TableHasRoom names ls))
IsRefused names ls Memory = ComesLast names ls × TableHasRoom names ls
