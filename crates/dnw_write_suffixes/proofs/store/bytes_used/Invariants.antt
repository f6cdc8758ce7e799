use Rattle.std.proofs.Common.{◌+◌, ◌≤◌}
use Rattle.std.specs.List.{AllWithin}
use Rattle.dnw_write_suffixes.proofs.store.bytes_used.Given as goal

-- those before end there
abbrev pub invariant-loop-entry : goal.invariant-loop-entry
invariant-loop-entry l = (l.used ≤ l.len) × AllWithin (λ e. e.from + e.size ≤ l.used) l.entries 0 l.entry-index
