-- Two buffers with the rows and the names of a table, and how far they are filled.
use Rattle.std.specs.Prelude.{◌≡◌, ◌≤◌, ℕ, ◌-◌, Bool, true, false, List, [], ◌∷◌, ◌++◌, drop, length, take}
use Rattle.dnw_base.specs.Decoder.{Decoder}
use Rattle.dnw_data.specs.declared.kind.Kind.{Kind}
use Rattle.dnw_c_base.specs.declared.failure.Failure.{Failure}
use Rattle.dnw_c_messages.specs.Listings.{Halts, Listing, ListSteps, Task, fields, items}
use Rattle.dnw_message_read.specs.declared.header.HeaderCounts.{HeaderCounts}
use Rattle.dnw_message_read.specs.declared.error.Section.{Section}
use Rattle.dnw_message_read.specs.declared.error.Section.TheVariants as section
use Rattle.dnw_c_messages.specs.declared.rows.Listed.{Listed}
use Rattle.dnw_c_messages.specs.declared.rows.TableRow.{TableRow}

pub record Sheet : Type 0 where
  pub rows : List TableRow
  pub names : List ℕ
  pub at : Listed

abbrev pub sheet : List TableRow → List ℕ → Listed → Sheet
sheet rows names at = record { rows = rows; names = names; at = at }

-- what is listed there
abbrev pub listing : Sheet → Listing
listing s = record { rows = take s.at.row_count s.rows; names = take s.at.names_len s.names; left = s.at.left }

-- the counts are within the buffers
pub record Fits (s : Sheet) : Type 0 where
  pub rows : s.at.row_count ≤ length s.rows
  pub names : s.at.names_len ≤ length s.names

-- The buffers are filled further, and what follows is unchanged.
pub record Onward (s t : Sheet) : Type 0 where
  pub fits : Fits t
  pub rows_size : length t.rows ≡ length s.rows
  pub names_size : length t.names ≡ length s.names
  pub rows_from : s.at.row_count ≤ t.at.row_count
  pub names_from : s.at.names_len ≤ t.at.names_len
  pub rows_kept : drop t.at.row_count t.rows ≡ drop t.at.row_count s.rows
  pub names_kept : drop t.at.names_len t.names ≡ drop t.at.names_len s.names

-- And this is listed then.
pub record FillsTo (s t : Sheet) (l : Listing) : Type 0 where
  pub onward : Onward s t
  pub is : listing t ≡ l

-- The same of the rows alone, with any names.
abbrev pub RowsAdvance : List TableRow → List TableRow → Listed → Listed → (Listing → Listing) → Type 0
RowsAdvance rows new at after more =
    (names : List ℕ) → at.names_len ≤ length names → FillsTo (sheet rows names at) (sheet new names after) (more (listing (sheet rows names at)))

-- Tasks are done in part, whatever is to be done after them.
pub record Goes (b : List ℕ) (tasks : List Task) (p : ℕ) (s : Sheet) (left : List Task) (q : ℕ) (t : Sheet) : Type 0 where
  pub onward : Onward s t
  pub runs : (others : List Task) → ListSteps b (tasks ++ others) p (listing s) (left ++ others) q (listing t)

-- They halt.
pub record HaltsOn (b : List ℕ) (tasks : List Task) (p : ℕ) (s : Sheet) (failure : Failure) : Type 0 where
  pub halts : (others : List Task) → Halts b (length s.rows) (length s.names) (tasks ++ others) p (listing s) failure

-- the fields that are left after one that is there or not
abbrev pub left_of : Bool → List Kind → Decoder → List Task
left_of true kinds d = fields kinds d ∷ []
left_of false kinds d = []

-- One of the items that are left of a section is done.
abbrev pub GoesByOne : Section → List ℕ → ℕ → Sheet → ℕ → Sheet → Type 0
GoesByOne section b p s q t = (n : ℕ) → 1 ≤ n → Goes b (items section n ∷ []) p s (items section (n - 1) ∷ []) q t

-- It halts.
abbrev pub HaltsAtOne : Section → List ℕ → ℕ → Sheet → Failure → Type 0
HaltsAtOne section b p s failure = (n : ℕ) → 1 ≤ n → HaltsOn b (items section n ∷ []) p s failure

-- the items of the sections that are counted
abbrev pub section_tasks : HeaderCounts → List Task
section_tasks counts =
    items section.Queries counts.queries ∷ items section.Answers counts.answers ∷ items section.Authorities counts.authorities
    ∷ items section.Additionals counts.additionals ∷ []
