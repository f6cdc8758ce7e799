use Rattle.std.proofs.Common.{ℕ, List, [], ◌∷◌, length}
use Rattle.dnw_c_messages.specs.Listings.{fields}
use Rattle.dnw_c_messages.specs.Inside.Sheets.{Fits, Goes, sheet}
use Rattle.dnw_c_messages.proofs.row_fields.list_fields.Given as goal

abbrev pub invariant-fields : goal.invariant-fields
invariant-fields l = record {
  fits : Fits (sheet l.rows l.names l.at);
  goes : (b : List ℕ) (p : ℕ) → Goes b (fields l.kinds l.fn.reader ∷ []) p (sheet l.fn.rows l.fn.names l.fn.at) (fields l.left l.reader ∷ []) p
      (sheet l.rows l.names l.at);
}

abbrev pub decreases-fields : goal.decreases-fields
decreases-fields l = length l.left
