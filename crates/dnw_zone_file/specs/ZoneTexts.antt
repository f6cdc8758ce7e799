-- What a whole text of a zone file means (RFC 1035, section 5): its entries, one after the other, and of them the list of the records,
-- each with its owner; or else the first entry that is none.
use Rattle.std.specs.Prelude.{◌≡◌, ◌≢◌, ◌-◌, ⊤, ℕ, zero, suc, false, List, [], ◌∷◌, ◌++◌, drop, length, Option, Some, Ok, Err}
use Rattle.dnw_base.specs.Names.{NameValue}
use Rattle.dnw_zone_file.specs.declared.context.Context.{Context}
use Rattle.dnw_zone_file.specs.declared.entry.Entry.{Entry}
use Rattle.dnw_zone_file.specs.declared.entry.Entry.TheVariants.{Record as RecordEntry, Include as IncludeEntry}
use Rattle.dnw_zone_file.specs.declared.entry.Include.{Include}
use Rattle.dnw_zone_file.specs.declared.error.ZoneError.{ZoneError}
use Rattle.dnw_zone_file.specs.declared.step.Found.TheVariants.{Entry as IsOne}
use Rattle.dnw_zone_file.specs.declared.zone_text.OwnedRecord.{OwnedRecord}
use Rattle.dnw_zone_file.specs.declared.zone_text.ZoneTextError.{ZoneTextError}
use Rattle.dnw_zone_file.specs.declared.zone_text.ZoneTextError.TheVariants.{NoEntry, HasInclude}
use Rattle.dnw_zone_file.specs.Contexts.{IsFirst}
use Rattle.dnw_zone_file.specs.Steps.{IsStep}

-- The text begins with this entry, of so many octets.
unfoldable pub TakesEntry : Context → List ℕ → Entry → ℕ → Context → Type 0
TakesEntry before text entry used after = IsStep before text false (record { used = used; found = Ok (IsOne entry) }) after

-- The text begins with no entry.
unfoldable pub LacksEntry : Context → List ℕ → ZoneError → Type 0
LacksEntry before text error = (used : ℕ) × (after : Context) × IsStep before text false (record { used = used; found = Err error }) after

-- Another file's entries are no part of a text.
abbrev pub IsOfText : Entry → Type 0
IsOfText (IncludeEntry include) = ⊥
IsOfText entry = ⊤

-- the record that an entry is, with the owner that is known after it; other entries are none
abbrev pub records_of_entry : Entry → Option (List (List ℕ)) → List OwnedRecord
records_of_entry (RecordEntry r) (Some owner) = record { owner = owner; body = r } ∷ []
records_of_entry entry owner = []

-- The first so many entries of a text are these records, one after the other, and this is left.
abbrev pub BeginsWithRecords : ℕ → Context → List ℕ → List OwnedRecord → List ℕ → Context → Type 0
BeginsWithRecords zero before text records left after = (records ≡ []) × (left ≡ text) × (after ≡ before)
BeginsWithRecords (suc n) before text records left after =
    (entry : Entry) × (used : ℕ) × (between : Context) × (others : List OwnedRecord) × TakesEntry before text entry used between × IsOfText entry
    × BeginsWithRecords n between (drop used text) others left after × (records ≡ records_of_entry entry between.owner ++ others)

-- The text is these records: nothing is left after its entries.
abbrev pub IsZoneText : NameValue → List ℕ → List OwnedRecord → Type 0
IsZoneText origin text records =
    (n : ℕ) × (first : Context) × (after : Context) × IsFirst origin first × BeginsWithRecords n first text records [] after

-- why what is left of a text begins with no entry of it
abbrev pub FailsNextEntry : Context → List ℕ → ℕ → ZoneTextError → Type 0
FailsNextEntry before left offset (NoEntry at error) = (at ≡ offset) × LacksEntry before left error
FailsNextEntry before left offset (HasInclude at) =
    (at ≡ offset) × (include : Include) × (used : ℕ) × (after : Context) × TakesEntry before left (IncludeEntry include) used after

-- The text is no list of records: after its first entries, at this offset, is none, or one that is of another file.
abbrev pub FailsZoneText : NameValue → List ℕ → ZoneTextError → Type 0
FailsZoneText origin text error =
    (n : ℕ) × (first : Context) × (records : List OwnedRecord) × (left : List ℕ) × (before : Context) × IsFirst origin first
    × BeginsWithRecords n first text records left before × (left ≢ []) × FailsNextEntry before left (length text - length left) error
