-- Findings, and lists of them.
use Rattle.std.specs.Prelude.{ℕ, Bool, true, false, if◌then◌else◌, List, [], ◌∷◌, Option, Some, None}
use Rattle.dnw_zone_checks.specs.declared.finding.Check.{Check}
use Rattle.dnw_zone_checks.specs.declared.finding.Check.TheVariants as against
use Rattle.dnw_zone_checks.specs.declared.finding.Finding.{Finding}

-- the number by which other languages know a check
abbrev pub check_number : Check → ℕ
check_number against.NoSoa = 1
check_number against.NoNs = 2
check_number against.OutOfZone = 3
check_number against.OtherClass = 4
check_number against.SoaElsewhere = 5
check_number against.TwoOfOne = 6
check_number against.OtherTtl = 7
check_number against.CnameAndOther = 8
check_number against.DsElsewhere = 9
check_number against.BelowDname = 10
check_number against.BelowDelegation = 11
check_number against.NoHostName = 12
check_number against.ServerIsAlias = 13
check_number against.NoAddress = 14
check_number against.NsAndDname = 15
check_number against.WildcardNs = 16
check_number against.DigestLength = 17
check_number against.CaaTag = 18
check_number against.ServerIsAddress = 19
check_number against.NoSiblingGlue = 20
check_number against.NoServerAddress = 21

-- All but these are errors.
abbrev pub is_error : Check → Bool
is_error against.OtherTtl = false
is_error against.BelowDelegation = false
is_error against.NoHostName = false
is_error against.WildcardNs = false
is_error against.ServerIsAddress = false
is_error against.NoSiblingGlue = false
is_error against.NoServerAddress = false
is_error check = true

-- of a record, and of one and another
abbrev pub finding : Check → ℕ → Option ℕ → Finding
finding check number other = record { check = check; number = Some number; other = other }

abbrev pub listed : Option Finding → List Finding
listed None = []
listed (Some one) = one ∷ []

-- what a zone has no record for
abbrev pub apex_lack : Check → Option ℕ → Option Finding
apex_lack check None = Some (record { check = check; number = None; other = None })
apex_lack check (Some number) = None

-- of a record, if it holds
abbrev pub if_so : Check → ℕ → Bool → Option Finding
if_so check number holds = if holds then Some (finding check number None) else None

-- of a record and another, if there is another
abbrev pub with_other : Check → ℕ → Option ℕ → Option Finding
with_other check number None = None
with_other check number (Some other) = Some (finding check number (Some other))
