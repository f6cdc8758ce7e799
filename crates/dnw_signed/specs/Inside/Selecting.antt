-- Records of which those that an RRSIG covers are listed, one by one.
use Rattle.std.specs.Prelude.{◌≡◌, ◌≤◌, ◌⊎◌, ℕ, ◌↔◌, Bool, IsTrue, Option, Some, None, List, [], ◌∷◌, ◌++◌, length}
use Rattle.std.specs.Borrow.{Bor}
use Rattle.std.specs.List.{AllByRecursion}
use Rattle.dnw_record.specs.Records.{RecordValue}
use Rattle.dnw_record.specs.declared.rdata.RDataError.TheVariants as rdata
use Rattle.dnw_base.specs.Limits.{max_message, max_pointers}
use Rattle.dnw_signed.specs.CanonicalData.{IsCanonicalOf}
use Rattle.dnw_record.specs.DataPointers.{TakesDataPointers}
use Rattle.dnw_signed.specs.Covering.{AreCovered, FailsCovered, IsCovered, IsRightRrsig, IsTooLong, LacksCanonical, LacksPointers, SignsFor}
use Rattle.dnw_signed.specs.declared.error.CanonicalError.{CanonicalError}
use Rattle.dnw_signed.specs.declared.error.CanonicalError.TheVariants as why
use Rattle.dnw_signed.specs.declared.covering.Rrsig.{Rrsig}
use Rattle.dnw_signed.specs.declared.data_list.DataList.{DataList}
use Rattle.dnw_signed.specs.Inside.Listing.{HoldsData, data_of}

-- It is said whether the signer may be the zone of the owner.
abbrev pub KnowsZone : RecordValue → List ℕ → Bool → Type 0
KnowsZone s fields in_zone = IsTrue in_zone ↔ SignsFor fields s.owner

-- This is the RRSIG that a record of a message is.
pub record IsRrsigAs (s : RecordValue) (rrsig : Rrsig) : Type 0 where
  pub right : IsRightRrsig s rrsig.fields.now
  pub zone : KnowsZone s rrsig.fields.now rrsig.in_zone

-- Of these records those that are covered are listed, and those of any that follow are what all are.
pub record IsSelecting (s : RecordValue) (fields : List ℕ) (done : List RecordValue) (list : DataList) (left : ℕ) : Type 0 where
  pub listed : HoldsData list
  pub rest : (others : List RecordValue) (more : List (List ℕ)) (end : ℕ) → AreCovered s fields others left more end
      → AreCovered s fields (done ++ others) max_pointers (data_of list ++ more) end
  pub none : data_of list ≡ [] → left ≡ max_pointers

-- Why a record with this number that is covered has no data in canonical form, if so many pointers are left.
abbrev pub FailsSelected : RecordValue → ℕ → ℕ → CanonicalError → Type 0
FailsSelected r left place (why.Field number error) = (number ≡ place) × LacksCanonical (rdata.Field error) r left
FailsSelected r left place (why.DataTooLong number) = (number ≡ place) × IsTooLong r left
FailsSelected r left place (why.TooManyPointers number) = (number ≡ place) × LacksPointers r left
FailsSelected r left place why.Memory = Unit {0}
FailsSelected r left place error = ⊥

-- Of these records none is covered.
abbrev pub NoneCovered : RecordValue → List ℕ → List RecordValue → Type 0
NoneCovered s fields records = AllByRecursion (λ r. ¬ (IsCovered s fields r)) records

-- Of these records this one alone is covered, which has this number.
pub record IsOnlyCovered (s : RecordValue) (fields : List ℕ) (records : List RecordValue) (number : ℕ) (r : RecordValue) : Type 0 where
  pub before : List RecordValue
  pub after : List RecordValue
  pub split : records ≡ before ++ r ∷ after
  pub count : length before ≡ number
  pub covered : IsCovered s fields r
  pub none_before : NoneCovered s fields before
  pub none_after : NoneCovered s fields after

-- So far this one alone is covered, or none.
abbrev pub OnlyFound : RecordValue → List ℕ → List RecordValue → Option (ℕ × Bor RecordValue) → Type 0
OnlyFound s fields records None = NoneCovered s fields records
OnlyFound s fields records (Some (number, r)) = IsOnlyCovered s fields records number r.now

-- The data of a record in canonical form, if its names follow no more pointers than are allowed, and two octets can say their length.
abbrev pub HasCanonical : RecordValue → List ℕ → Type 0
HasCanonical r octets =
    (end : ℕ) × TakesDataPointers r max_pointers (Some end) × IsCanonicalOf r octets × (length octets ≤ max_message)

-- Why the records of an RRSIG with these fields are no set: the first that is covered and fails; or it covers none.
abbrev pub FailsRecords : RecordValue → List ℕ → List RecordValue → CanonicalError → Type 0
FailsRecords s fields records error =
    FailsCovered s fields records error ⊎ (AreCovered s fields records max_pointers [] max_pointers × (error ≡ why.NoRecords))
