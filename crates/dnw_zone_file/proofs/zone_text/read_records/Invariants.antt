use Rattle.std.proofs.Common.{◌≤◌, ℕ, length}
use Rattle.dnw_zone_file.specs.declared.context.Context.{Context}
use Rattle.dnw_zone_file.specs.Contexts.{IsFirst}
use Rattle.dnw_zone_file.specs.ZoneTexts.{BeginsWithRecords}
use Rattle.dnw_zone_file.proofs.zone_text.read_records.Given as goal

-- The records so far are those of the first entries, and this is left.
abbrev pub invariant-entries : goal.invariant-entries
invariant-entries l = record {
  so_far : (n : ℕ) × (first : Context) × IsFirst l.fn.origin first × BeginsWithRecords n first l.text l.records.items l.left l.context;
  within : length l.left ≤ length l.text;
}

abbrev pub decreases-entries : goal.decreases-entries
decreases-entries l = length l.left
