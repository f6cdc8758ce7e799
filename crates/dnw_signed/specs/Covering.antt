-- Which records an RRSIG covers (RFC 4035, section 5.3.1), and what its signature covers of them (RFC 4034, section 3.1.8.1).
use Rattle.std.specs.Prelude.{◌≡◌, ◌≢◌, ◌≤◌, ◌<◌, ◌⊎◌, ℕ, Some, None, List, [], ◌∷◌, ◌++◌, length, drop, get_or, slice_range}
use Rattle.std.specs.Int.{w16, w32, from_be_bytes}
use Rattle.std.specs.List.{flat_map}
use Rattle.dnw_base.specs.DnsClasses.{class_code}
use Rattle.dnw_base.specs.Limits.{max_message, max_pointers}
use Rattle.dnw_base.specs.Names.{AreLabels, lower, wire}
use Rattle.dnw_base.specs.RecordTypes.{type_code}
use Rattle.dnw_base.specs.declared.record_type.RecordType.TheVariants.{RRSIG}
use Rattle.dnw_name_order.specs.Order.{IsZoneOf}
use Rattle.dnw_record.specs.Records.{RecordValue}
use Rattle.dnw_record.specs.DataCopies.{Copies, data_start, record_kinds}
use Rattle.dnw_record.specs.declared.rdata.RDataError.{RDataError}
use Rattle.dnw_record.specs.declared.rdata.RDataError.TheVariants as rdata
use Rattle.dnw_signed.specs.CanonicalData.{FailsCanonical, IsCanonicalOf}
use Rattle.dnw_record.specs.DataPointers.{TakesDataPointers}
use Rattle.dnw_signed.specs.RecordSets.{IsInOrder, head_octets, set_record}
use Rattle.dnw_data.specs.Signature.{before_signer}
use Rattle.dnw_signed.specs.SignedFields.{IsSignedFields}
use Rattle.dnw_signed.specs.declared.error.CanonicalError.{CanonicalError}
use Rattle.dnw_signed.specs.declared.error.CanonicalError.TheVariants as why

-- ---- the RRSIG

-- fields of an RRSIG, by the octets that its data begin with: the type that it covers, the number of labels of the owner, and the
-- time to live of the records when they were signed (RFC 4034, sections 3.1.1, 3.1.3 and 3.1.4)
abbrev pub type_covered : List ℕ → ℕ
type_covered fields = from_be_bytes w16 (slice_range fields 0 2)

abbrev pub label_count : List ℕ → ℕ
label_count fields = get_or fields 3 0

abbrev pub original_ttl : List ℕ → ℕ
original_ttl fields = from_be_bytes w32 (slice_range fields 4 8)

abbrev pub HasRrsigType : RecordValue → Type 0
HasRrsigType s = type_code s.record_type ≡ type_code RRSIG

-- The record of a message is an RRSIG: the octets of its data, with the signer's name in its wire form, and those that are signed.
pub record IsRrsigOf (s : RecordValue) (fields : List ℕ) : Type 0 where
  pub octets : List ℕ
  pub copied : Copies (record_kinds s) (data_start s) octets
  pub parts : IsSignedFields (record { class = s.class; record_type = s.record_type; octets = octets }) fields

-- what each record begins with
abbrev pub signed_head : RecordValue → List ℕ → List ℕ
signed_head s fields = head_octets s.owner (type_covered fields) (class_code s.class) (label_count fields) (original_ttl fields)

-- It counts no more labels than its owner has (RFC 4035, section 5.3.1).
abbrev pub IsRightRrsig : RecordValue → List ℕ → Type 0
IsRightRrsig s fields = IsRrsigOf s fields × (label_count fields ≤ length s.owner)

-- The signer's name, whose wire form ends the fields that are signed, is the owner or a name that the owner is below: only so can
-- it be the zone of the owner's records.
abbrev pub SignsFor : List ℕ → List (List ℕ) → Type 0
SignsFor fields owner = (signer : List (List ℕ)) × AreLabels signer × (drop before_signer fields ≡ wire signer) × IsZoneOf signer owner

-- ---- which records it covers

-- It covers a record of its owner, its class and the type that it names, if its signer may be the zone of that owner.
pub record IsCovered (s : RecordValue) (fields : List ℕ) (r : RecordValue) : Type 0 where
  pub owner : lower r.owner ≡ lower s.owner
  pub class : class_code r.class ≡ class_code s.class
  pub kind : type_code r.record_type ≡ type_covered fields
  pub zone : SignsFor fields s.owner

-- Of a record that it covers there are the data in canonical form, whose length two octets can say, and their names take their
-- pointers from those that may be followed. Of others there are none.
abbrev pub Selects : RecordValue → List ℕ → RecordValue → ℕ → List (List ℕ) → ℕ → Type 0
Selects s fields r most [] left = (¬ (IsCovered s fields r)) × (left ≡ most)
Selects s fields r most (octets ∷ []) left =
    IsCovered s fields r × TakesDataPointers r most (Some left) × IsCanonicalOf r octets × (length octets ≤ max_message)
Selects s fields r most (octets ∷ other ∷ more) left = ⊥

-- Of these records it covers those with these data, in turn. Of the pointers that the names in them may follow so many are left.
pub data AreCovered (s : RecordValue) (fields : List ℕ) : List RecordValue → ℕ → List (List ℕ) → ℕ → Type 0 where
  none_left : (left : ℕ) → AreCovered s fields [] left [] left
  next_record : (r : RecordValue) (records : List RecordValue) (most left end : ℕ) (one all : List (List ℕ))
      → Selects s fields r most one left → AreCovered s fields records left all end → AreCovered s fields (r ∷ records) most (one ++ all) end

-- ---- what its signature covers

-- It covers some of the records, and the names in their data follow 65,536 pointers at most. The octets are its own that are signed,
-- and then those of the records: each once, in canonical order of its data.
pub record IsSigned (s : RecordValue) (records : List RecordValue) (octets : List ℕ) : Type 0 where
  pub fields : List ℕ
  pub rrsig : IsRightRrsig s fields
  pub all : List (List ℕ)
  pub left : ℕ
  pub covered : AreCovered s fields records max_pointers all left
  pub some : all ≢ []
  pub sorted : List (List ℕ)
  pub in_order : IsInOrder all sorted
  pub joined : octets ≡ fields ++ flat_map (set_record (signed_head s fields)) sorted

-- ---- failures

-- The record with this number is the first that is covered and has no such data, for a reason, if so many pointers are left.
pub record FirstFails (s : RecordValue) (fields : List ℕ) (records : List RecordValue) (number : ℕ) (reason : RecordValue → ℕ → Type 0) : Type 0 where
  pub before : List RecordValue
  pub r : RecordValue
  pub after : List RecordValue
  pub split : records ≡ before ++ r ∷ after
  pub count : length before ≡ number
  pub all : List (List ℕ)
  pub left : ℕ
  pub done : AreCovered s fields before max_pointers all left
  pub covered : IsCovered s fields r
  pub fails : reason r left

-- The names in the data follow more pointers than are left.
abbrev pub LacksPointers : RecordValue → ℕ → Type 0
LacksPointers r left = TakesDataPointers r left None

-- They do not, but the data are no fields of their class and type, or memory ran out.
abbrev pub LacksCanonical : RDataError → RecordValue → ℕ → Type 0
LacksCanonical error r left = (end : ℕ) × TakesDataPointers r left (Some end) × FailsCanonical r error

-- They do not, but two octets can't say how long the data are in canonical form.
abbrev pub IsTooLong : RecordValue → ℕ → Type 0
IsTooLong r left = (end : ℕ) × TakesDataPointers r left (Some end) × (octets : List ℕ) × IsCanonicalOf r octets × (max_message < length octets)

-- Why the record is no RRSIG: it has another type, or its data are left out (RFC 2136, section 2.4); its data are none of one; or it
-- counts too many labels; or memory ran out.
abbrev pub FailsRrsig : RecordValue → CanonicalError → Type 0
FailsRrsig s why.NotRrsig = (¬ (HasRrsigType s)) ⊎ ((octets : List ℕ) × IsCanonicalOf s octets × (length octets < before_signer))
FailsRrsig s (why.RrsigField error) = HasRrsigType s × FailsCanonical s (rdata.Field error)
FailsRrsig s why.TooFewLabels = (fields : List ℕ) × IsRrsigOf s fields × (length s.owner < label_count fields)
FailsRrsig s why.Memory = HasRrsigType s
FailsRrsig s error = ⊥

-- Why there is no set: the first record that it covers and that fails; or memory ran out.
abbrev pub FailsCovered : RecordValue → List ℕ → List RecordValue → CanonicalError → Type 0
FailsCovered s fields records (why.Field number error) = FirstFails s fields records number (LacksCanonical (rdata.Field error))
FailsCovered s fields records (why.DataTooLong number) = FirstFails s fields records number IsTooLong
FailsCovered s fields records (why.TooManyPointers number) = FirstFails s fields records number LacksPointers
FailsCovered s fields records why.Memory = Unit {0}
FailsCovered s fields records error = ⊥

-- Why there are no octets: there is no RRSIG; or there is, and no set, or it covers no record.
abbrev pub FailsToSign : RecordValue → List RecordValue → CanonicalError → Type 0
FailsToSign s records error =
    FailsRrsig s error
    ⊎ ((fields : List ℕ) × IsRightRrsig s fields × FailsCovered s fields records error)
    ⊎ ((fields : List ℕ) × IsRightRrsig s fields × AreCovered s fields records max_pointers [] max_pointers × (error ≡ why.NoRecords))
