-- What the NSEC records of a zone prove of a name and a type (RFC 4035, section 5.4; RFC 6840, sections 4.1 to 4.3).
use Rattle.std.specs.Prelude.{◌==◌, ◌&&◌, ◌||◌, ℕ, Bool, not, if◌then◌else◌, List, ◌∷◌, Option, Some, None}
use Rattle.dns_names_wire.specs.Words.{any_code, cname_code, ds_code, is_in, soa_code, wildcard}
use Rattle.ans_denial.specs.Nsecs.{Empty, Existence, Missing, NsecValue, Owns, Unknown, existence, is_of_delegation, lists}
use Rattle.ans_denial.specs.declared.denial.Denial.{Denial}
use Rattle.ans_denial.specs.declared.denial.Denial.TheVariants.{Insecure, NoData, NoName, NoWildcardData, Nothing}
use Rattle.ans_denial.specs.declared.denial.Reason.TheVariants.{AtDelegation, OfParent, OutOfZone, Present, WildcardUnknown}

-- The type is there, or the name is an alias. Whoever asks for all types is given what there is (RFC 1035, section 3.2.3).
unfoldable pub is_present : List ℕ → ℕ → Bool
is_present types code = code == any_code || lists types code || lists types cname_code

-- What the types that are listed at a name prove. Those of a delegation say nothing but whether it has DS records (RFC 4035, section
-- 5.2; RFC 6840, section 4.1), and those of an apex say nothing of DS, which the parent has (RFC 4035, section 2.4).
unfoldable pub denied_by_types : List ℕ → ℕ → Denial
denied_by_types types code =
    if is_of_delegation types && not (code == ds_code) then Nothing AtDelegation
    else if lists types soa_code && code == ds_code then Nothing OfParent
    else if is_present types code then Nothing Present
    else if is_of_delegation types then Insecure else NoData

-- what is proved of a name that does not exist, by what is said of the wildcard that would stand for it (RFC 4035, section 5.4)
unfoldable pub denied_by_wildcard : Existence → ℕ → Denial
denied_by_wildcard (Unknown reason) code = Nothing WildcardUnknown
denied_by_wildcard (Owns types) code =
    if is_of_delegation types then Nothing AtDelegation else if is_present types code then Nothing Present else NoWildcardData
denied_by_wildcard Empty code = NoWildcardData
denied_by_wildcard (Missing closest) code = NoName

-- what is proved by what is said of a name, and of others as it is looked up
unfoldable pub concluded : (List (List ℕ) → Existence) → Existence → ℕ → Denial
concluded look (Unknown reason) code = Nothing reason
concluded look (Owns types) code = denied_by_types types code
concluded look Empty code = NoData
concluded look (Missing closest) code = denied_by_wildcard (look (wildcard ∷ closest)) code

unfoldable pub denied_by : (List (List ℕ) → Existence) → List (List ℕ) → ℕ → List (List ℕ) → Denial
denied_by look name code apex = if is_in apex name then concluded look (look name) code else Nothing OutOfZone

-- What NSEC records of the zone with this apex prove.
abbrev pub denies : List NsecValue → List (List ℕ) → ℕ → List (List ℕ) → Denial
denies nsecs = denied_by (existence nsecs)

-- ---- beside the answer of a wildcard

unfoldable pub missing_below : Existence → Option (List (List ℕ))
missing_below (Missing closest) = Some closest
missing_below other = None

-- The closest encloser of a name, if the records prove that the name does not exist. So the answer of a wildcard below it is the
-- one for the name (RFC 4035, section 5.3.4).
unfoldable pub encloser_by : (List (List ℕ) → Existence) → List (List ℕ) → List (List ℕ) → Option (List (List ℕ))
encloser_by look name apex = if is_in apex name then missing_below (look name) else None

abbrev pub proved_encloser : List NsecValue → List (List ℕ) → List (List ℕ) → Option (List (List ℕ))
proved_encloser nsecs = encloser_by (existence nsecs)
