-- What the function for C puts of the findings of a zone, and why it puts none.
use Rattle.std.specs.Prelude.{◌≡◌, ◌<◌, ◌≤◌, ◌⊎◌, ℕ, List, ◌++◌, length, drop, map, unwrap_or, Result, MatchResult}
use Rattle.dnw_record.specs.Records.{RecordValue}
use Rattle.dnw_zone_checks.specs.Checks.{AreFindings, OwnersAreInOrder, IsOutOfOrder}
use Rattle.dnw_zone_checks.specs.Findings.{check_number, is_error}
use Rattle.dnw_zone_checks.specs.declared.finding.Finding.{Finding}
use Rattle.dnw_c_base.specs.Results.{Refuses}
use Rattle.dnw_c_base.specs.WireForms.{IsFormOf, IsNoForm}
use Rattle.dnw_c_base.specs.declared.failure.Failure.{Failure}
use Rattle.dnw_c_base.specs.declared.failure.Failure.TheVariants as why
use Rattle.dnw_c_signed.specs.RecordCalls.{AreLimitedRecords, FailsToRead}
use Rattle.dnw_c_signed.specs.declared.zone_checks.ZoneFinding.{ZoneFinding}

-- the number of a record that is not there
abbrev pub no_record : ℕ
no_record = 18446744073709551615

-- a finding as C learns it
abbrev pub row_of : Finding → ZoneFinding
row_of one = record {
  check = check_number one.check;
  is_error = is_error one.check;
  number = unwrap_or one.number no_record;
  other = unwrap_or one.other no_record;
}

-- The records are in order, and this is found of them.
abbrev pub HasFindings : List ℕ → List ℕ → List Finding → Type 0
HasFindings zone octets found =
    (labels : List (List ℕ)) × (records : List RecordValue) × IsFormOf zone labels × AreLimitedRecords octets 0 records × OwnersAreInOrder records
    × AreFindings labels records found

-- The records are not in order, or memory ran out.
abbrev pub FailsToFind : List RecordValue → Failure → Type 0
FailsToFind records failure = ((number : ℕ) × IsOutOfOrder records number × (failure ≡ why.BadItem)) ⊎ (failure ≡ why.NoMemory)

-- The zone is no wire form; or the records do not go on to the end; or they are not in order; or memory ran out.
abbrev pub FailsToCheck : List ℕ → List ℕ → Failure → Type 0
FailsToCheck zone octets failure =
    IsNoForm zone failure
    ⊎ ((labels : List (List ℕ)) × IsFormOf zone labels × FailsToRead octets 0 failure)
    ⊎ ((labels : List (List ℕ)) × (records : List RecordValue) × IsFormOf zone labels × AreLimitedRecords octets 0 records × FailsToFind records failure)

-- Rows are put at the front of a buffer, and counted, if they fit. Else there is no room, and the buffer is unchanged.
abbrev pub PutsRows : List ZoneFinding → List ZoneFinding → List ZoneFinding → Result ℕ Failure → Type 0
PutsRows rows old new result = MatchResult result
    (λ count. (count ≡ length rows) × (length rows ≤ length old) × (new ≡ rows ++ drop (length rows) old))
    (λ failure. (failure ≡ why.NoRoom) × (length old < length rows) × (new ≡ old))

-- The findings are put; or there are none, or memory runs out.
abbrev pub PutsFindings : List ℕ → List ℕ → List ZoneFinding → List ZoneFinding → Result ℕ Failure → Type 0
PutsFindings zone octets old new result =
    ((found : List Finding) × HasFindings zone octets found × PutsRows (map row_of found) old new result)
    ⊎ Refuses (λ failure. FailsToCheck zone octets failure ⊎ (failure ≡ why.NoMemory)) old new result
