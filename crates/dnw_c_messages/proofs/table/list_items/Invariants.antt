use Rattle.std.proofs.Common.{◌≡◌, [], ◌∷◌}
use Rattle.dnw_c_messages.specs.Listings.{items}
use Rattle.dnw_c_messages.specs.Inside.Sheets.{Fits, Goes, sheet}
use Rattle.dnw_c_messages.proofs.table.list_items.Given as goal

abbrev pub invariant-items : goal.invariant-items
invariant-items l = record {
  fits : Fits (sheet l.rows l.names l.at);
  same : l.reader.bytes ≡ l.fn.reader.bytes;
  goes : Goes l.fn.reader.bytes (items l.section l.count ∷ []) l.fn.reader.index (sheet l.fn.rows l.fn.names l.fn.at) (items l.section l.left ∷ [])
      l.reader.index (sheet l.rows l.names l.at);
}

abbrev pub decreases-items : goal.decreases-items
decreases-items l = l.left
