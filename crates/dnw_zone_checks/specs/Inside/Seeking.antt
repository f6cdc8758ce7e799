-- What is looked for among the records of a zone, and lists of the records that are.
use Rattle.std.specs.Prelude.{◌≡◌, ◌<◌, ◌+◌, ◌==◌, ◌&&◌, ℕ, Bool, true, false, not, if◌then◌else◌, Option, None, List, [], ◌∷◌, length, Some, slice_index_or}
use Rattle.std.specs.Ordering.{is_eq, is_lt}
use Rattle.dnw_base.specs.RecordTypes.{type_code}
use Rattle.dnw_base.specs.TypeCodes.{cname_code, dname_code, ns_code, soa_code}
use Rattle.dnw_name_order.specs.Order.{labels_cmp}
use Rattle.dnw_record.specs.Records.{RecordValue}
use Rattle.dnw_zone_checks.specs.Checks.{OwnersAreInOrder, first_at, has_type, is_address, is_beside_alias, is_same}
use Rattle.dnw_zone_checks.specs.declared.lookup.Sought.{Sought}
use Rattle.dnw_zone_checks.specs.declared.lookup.Sought.TheVariants as sought
use Rattle.dnw_zone_checks.specs.declared.sets.Firsts.{Firsts}
use Rattle.dnw_zone_checks.specs.declared.zone.Lists.{Lists}
use Rattle.dnw_zone_checks.specs.declared.zone.Zone.{Zone}

abbrev pub is_sought : Sought → ℕ → Bool
is_sought sought.Any code = true
is_sought sought.Soa code = code == soa_code
is_sought sought.Ns code = code == ns_code
is_sought sought.Cname code = code == cname_code
is_sought sought.Dname code = code == dname_code
is_sought sought.Address code = is_address code
is_sought sought.NotBesideAlias code = not (is_beside_alias code)

-- the numbers, of which this is the first one, of the records of these types
abbrev pub numbers_from : (ℕ → Bool) → ℕ → List RecordValue → List ℕ
numbers_from is_one number [] = []
numbers_from is_one number (r ∷ left) =
    if is_one (type_code r.record_type) then number ∷ numbers_from is_one (number + 1) left else numbers_from is_one (number + 1) left

abbrev pub numbers_of : Sought → List RecordValue → List ℕ
numbers_of kind records = numbers_from (is_sought kind) 0 records

pub record AreLists (lists : Lists) (records : List RecordValue) : Type 0 where
  pub any : lists.any.items ≡ numbers_of sought.Any records
  pub soa : lists.soa.items ≡ numbers_of sought.Soa records
  pub ns : lists.ns.items ≡ numbers_of sought.Ns records
  pub cname : lists.cname.items ≡ numbers_of sought.Cname records
  pub dname : lists.dname.items ≡ numbers_of sought.Dname records
  pub address : lists.address.items ≡ numbers_of sought.Address records
  pub not_beside_alias : lists.not_beside_alias.items ≡ numbers_of sought.NotBesideAlias records

-- The records are in order, and the lists are theirs.
pub record IsZoneListed (zone : Zone) : Type 0 where
  pub ordered : OwnersAreInOrder zone.records.now
  pub listed : AreLists zone.lists zone.records.now

-- a record of these types whose owner is not before a name
abbrev pub is_from : List (List ℕ) → (ℕ → Bool) → RecordValue → Bool
is_from name is_one r = is_one (type_code r.record_type) && not (is_lt (labels_cmp r.owner name))

-- ---- sets

-- No record before this number has the type.
abbrev pub IsNotMet : List RecordValue → ℕ → ℕ → Type 0
IsNotMet records number code = (k : ℕ) (d : RecordValue) → k < number → (type_code (slice_index_or records k d).record_type == code) ≡ false

-- Of those before this number that have the type, none has an owner after that of this one, which is the first of its set.
pub record IsMetLast (records : List RecordValue) (number code first : ℕ) : Type 0 where
  pub before : first < number
  pub is_first : (d : RecordValue) → first_at records (slice_index_or records first d).owner (has_type code) ≡ Some first
  pub last : (k : ℕ) (d : RecordValue) → k < number → (type_code (slice_index_or records k d).record_type == code) ≡ true
      → is_lt (labels_cmp (slice_index_or records first d).owner (slice_index_or records k d).owner) ≡ false

-- what a table has for a type after the records before this number: the first record of the set that was met last, if one was
abbrev pub IsLastOfType : List RecordValue → ℕ → ℕ → Option ℕ → Type 0
IsLastOfType records number code None = IsNotMet records number code
IsLastOfType records number code (Some first) = IsMetLast records number code first

pub record AreFirsts (firsts : Firsts) (records : List RecordValue) (number : ℕ) : Type 0 where
  pub all_types : length firsts.numbers.items ≡ 65536
  pub each : (code : ℕ) → code < 65536 → IsLastOfType records number code (slice_index_or firsts.numbers.items code None)

-- No record before this one has its owner and this type.
pub record IsNew (records : List RecordValue) (number code : ℕ) : Type 0 where
  pub none : (k : ℕ) (d : RecordValue) → k < number
      → (is_same (slice_index_or records k d).owner (slice_index_or records number d).owner && (type_code (slice_index_or records k d).record_type == code)) ≡ false

-- The set of this one, if it has this type, is that of another, which is the last that was met.
pub record IsOfMetSet (records : List RecordValue) (number code first : ℕ) : Type 0 where
  pub last : IsMetLast records (number + 1) code first
  pub is_before : first < length records
  pub same : (d : RecordValue) → is_eq (labels_cmp (slice_index_or records first d).owner (slice_index_or records number d).owner) ≡ true
