-- NSEC records (RFC 4034, section 4), and which names they say exist (RFC 4035, section 5.4; RFC 6840, sections 4.1 to 4.3).
use Rattle.std.specs.Prelude.{◌==◌, ◌&&◌, ◌||◌, ℕ, Bool, not, if◌then◌else◌, unwrap_or, List, [], ◌∷◌, Option, Some, None}
use Rattle.std.specs.List.{list_any}
use Rattle.std.specs.Ordering.{is_lt}
use Rattle.dns_names_wire.specs.Words.{dname_code, is_in, is_same, labels_cmp, ns_code, soa_code}
use Rattle.ans_denial.specs.declared.denial.Reason.{Reason}
use Rattle.ans_denial.specs.declared.denial.Reason.TheVariants.{BelowDelegation, NoRecord}

-- An NSEC record: its owner, the next name, and the codes of the types that it lists (RFC 4034, section 4.1).
pub record NsecValue : Type 0 where
  pub owner : List (List ℕ)
  pub next : List (List ℕ)
  pub types : List ℕ

-- The types are listed.
unfoldable pub lists : List ℕ → ℕ → Bool
lists types code = list_any (λ listed. listed == code) types

-- The owner is a delegation, as its parent sees it: NS is listed, and SOA is not (RFC 6840, section 4.1).
unfoldable pub is_of_delegation : List ℕ → Bool
is_of_delegation types = lists types ns_code && not (lists types soa_code)

-- The names below the owner are sent away from it: it is a delegation, or has a DNAME record (RFC 6840, section 4.1).
unfoldable pub sends_below : List ℕ → Bool
sends_below types = is_of_delegation types || lists types dname_code

-- The name is after the owner and before the next name. The next name of a zone's last record is the apex: then each name of the zone
-- after the owner is covered (RFC 4034, sections 4.1.1 and 6.1).
unfoldable pub covers : NsecValue → List (List ℕ) → Bool
covers nsec name =
    is_lt (labels_cmp nsec.owner name)
    && (if is_lt (labels_cmp nsec.owner nsec.next) then is_lt (labels_cmp name nsec.next) else is_in nsec.next name)

-- ---- the closest encloser of a name that a record covers

-- The owner or the next name is this one or below it, so it exists.
unfoldable pub is_above_ends : NsecValue → List (List ℕ) → Bool
is_above_ends nsec name = is_in name nsec.owner || is_in name nsec.next

-- the longest name above this one that exists (RFC 4592, section 3.3.1): no other record has an end between
unfoldable pub closest : NsecValue → List (List ℕ) → List (List ℕ)
closest nsec [] = []
closest nsec (label ∷ above) = if is_above_ends nsec above then above else closest nsec above

-- ---- whether a name exists

-- What records say of a name.
pub data Existence : Type 0 where
  -- nothing, for a reason
  Unknown : Reason → Existence
  -- it owns records, and the codes of these types are listed
  Owns : List ℕ → Existence
  -- it owns none, and a name below it does (RFC 4592, section 2.2.2)
  Empty : Existence
  -- it does not exist: the closest encloser
  Missing : List (List ℕ) → Existence

-- What a record says of a name that it covers. If the next name is below it, it exists. The record of a delegation, or of a name with
-- a DNAME record, says nothing of the names below its owner (RFC 6840, section 4.1).
unfoldable pub covered : NsecValue → List (List ℕ) → Existence
covered nsec name =
    if is_in nsec.owner name && sends_below nsec.types then Unknown BelowDelegation
    else if is_in name nsec.next then Empty else Missing (closest nsec name)

-- what a record says of a name, if it is the name's or covers it
unfoldable pub said_by : NsecValue → List (List ℕ) → Option Existence
said_by nsec name =
    if is_same nsec.owner name then Some (Owns nsec.types)
    else if covers nsec name then Some (covered nsec name) else None

-- what records say of a name: the first that says something of it
unfoldable pub existence : List NsecValue → List (List ℕ) → Existence
existence [] name = Unknown NoRecord
existence (nsec ∷ nsecs) name = unwrap_or (said_by nsec name) (existence nsecs name)
