-- Why octets are no zone.
use Rattle.std.specs.Prelude.{◌≡◌, ◌⊎◌, ℕ, false, List, length}
use Rattle.dns_names_wire.specs.Words.{IsOutOfOrder, RecordValue, soa_code}
use Rattle.ans_store.specs.Stored.{AreRecordsFrom, FailsToStore}
use Rattle.ans_store.specs.Zones.{IsFirstOutside, have_type, owned_by}
use Rattle.ans_store.specs.declared.error.StoreError.{StoreError}
use Rattle.ans_store.specs.declared.error.StoreError.TheVariants.{NoSoa, NotInOrder, OutOfZone}

-- What is wrong with records that are read.
abbrev pub FailsZone : List (List ℕ) → List RecordValue → StoreError → Type 0
FailsZone apex records (NotInOrder number) = IsOutOfOrder records number
FailsZone apex records (OutOfZone number) = IsFirstOutside apex records number
FailsZone apex records NoSoa = have_type soa_code (owned_by apex records) ≡ false
FailsZone apex records error = ⊥

-- The octets are records that are no zone.
pub record IsNoZone (apex : List (List ℕ)) (octets : List ℕ) (error : StoreError) : Type 0 where
  pub records : List RecordValue
  pub read : AreRecordsFrom octets 0 records (length octets)
  pub fails : FailsZone apex records error

abbrev pub FailsToLoad : List (List ℕ) → List ℕ → StoreError → Type 0
FailsToLoad apex octets error = FailsToStore octets error ⊎ IsNoZone apex octets error
