-- What the functions for C put of all items of a message and of the fields of their data.
use Rattle.std.specs.Prelude.{◌≡◌, ◌<◌, ◌≤◌, ◌⊎◌, ℕ, List, [], ◌++◌, drop, length, Result}
use Rattle.dnw_message_read.specs.Headers.{header_size}
use Rattle.dnw_name_read.specs.Buffers.{put}
use Rattle.dnw_c_base.specs.Results.{GivesOr}
use Rattle.dnw_c_base.specs.declared.failure.Failure.{Failure}
use Rattle.dnw_c_base.specs.declared.failure.Failure.TheVariants.{MessageCut}
use Rattle.dnw_c_messages.specs.Listings.{Halts, Listing, ListSteps, nothing_listed, tasks_of}
use Rattle.dnw_c_messages.specs.declared.rows.TableRow.{TableRow}
use Rattle.dnw_c_messages.specs.declared.table.Table.{Table}

-- All items of a message are listed, with their fields, and the names follow so many pointers at most.
abbrev pub IsTableOf : List ℕ → ℕ → Listing → Type 0
IsTableOf b most l = (header_size ≤ length b) × (end : ℕ) × ListSteps b (tasks_of b) header_size (nothing_listed most) [] end l

-- They are not: the header is not all there, or listing the items comes to an end before, in buffers of these sizes.
abbrev pub FailsTable : List ℕ → ℕ → ℕ → ℕ → Failure → Type 0
FailsTable b most rows names failure =
    ((length b < header_size) × (failure ≡ MessageCut))
    ⊎ ((header_size ≤ length b) × Halts b rows names (tasks_of b) header_size (nothing_listed most) failure)

-- The rows and the names are put at the front of their buffers, and what follows there is unchanged.
pub record PutsListing (l : Listing) (rows new_rows : List TableRow) (names new_names : List ℕ) (table : Table) : Type 0 where
  pub rows_put : new_rows ≡ l.rows ++ drop (length l.rows) rows
  pub names_put : new_names ≡ put names l.names
  pub row_count : table.row_count ≡ length l.rows
  pub names_len : table.names_len ≡ length l.names
  pub rows_fit : length l.rows ≤ length rows
  pub names_fit : length l.names ≤ length names

abbrev pub PutsTable : List ℕ → ℕ → List TableRow → List TableRow → List ℕ → List ℕ → Result Table Failure → Type 0
PutsTable b most rows new_rows names new_names = GivesOr
    (λ table. (l : Listing) × IsTableOf b most l × PutsListing l rows new_rows names new_names table)
    (FailsTable b most (length rows) (length names))
