use Rattle.std.proofs.Common.{◌≤◌, ℕ, List, [], ◌∷◌, length}
use Rattle.dnw_c_messages.specs.Listings.{entries}
use Rattle.dnw_c_messages.specs.Inside.Sheets.{Goes, sheet}
use Rattle.dnw_c_messages.proofs.row_fields.list_entries.Given as goal

abbrev pub invariant-entries : goal.invariant-entries
invariant-entries l = record {
  can : (goal.iterator-entries).can_next l.items;
  finite : (goal.iterator-entries).is_finite l.items;
  within : length l.items.octets ≤ l.end;
  fits : l.at.row_count ≤ length l.rows;
  goes : (names : List ℕ) → l.fn.at.names_len ≤ length names → (b : List ℕ) (p : ℕ)
      → Goes b (entries l.fn.items l.end ∷ []) p (sheet l.fn.rows names l.fn.at) (entries l.items l.end ∷ []) p (sheet l.rows names l.at);
}
