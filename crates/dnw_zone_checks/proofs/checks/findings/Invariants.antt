use Rattle.std.proofs.Common.{◌≡◌, ◌++◌, List, drop}
use Rattle.dnw_zone_checks.specs.Checks.{AreFindings, AreFindingsFrom}
use Rattle.dnw_zone_checks.specs.Inside.Seeking.{AreFirsts}
use Rattle.dnw_zone_checks.specs.declared.finding.Finding.{Finding}
use Rattle.dnw_zone_checks.proofs.checks.findings.Given as goal

-- what is found of the records that are left, after what is found of the others, is what is found of all
abbrev pub invariant-records : goal.invariant-records
invariant-records l = record {
  number : l.number ≡ l.record-index;
  firsts : AreFirsts l.firsts l.records l.number;
  rest : (more : List Finding) → AreFindingsFrom l.apex.labels l.records l.number (drop l.record-index l.records) more
      → AreFindings l.apex.labels l.records (l.found.items ++ more);
}
