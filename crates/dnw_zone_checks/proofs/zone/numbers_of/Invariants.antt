use Rattle.std.proofs.Common.{◌≡◌, ◌++◌, drop}
use Rattle.dnw_zone_checks.specs.Inside.Seeking.{is_sought, numbers_from, numbers_of}
use Rattle.dnw_zone_checks.proofs.zone.numbers_of.Given as goal

-- the numbers of the records that are left, after those of the others, are those of all
abbrev pub invariant-records : goal.invariant-records
invariant-records l = l.numbers.items ++ numbers_from (is_sought l.sought) l.number (drop l.number l.records) ≡ numbers_of l.sought l.records
