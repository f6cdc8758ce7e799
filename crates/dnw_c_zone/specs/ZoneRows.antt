-- Many entries of a part of a zone file that C reads in one call (RFC 1035, section 5; RFC 2308, section 4): a row for each record, up to
-- what has no row. What an entry is is said by the definitions of `dnw_zone_file`.
use Rattle.std.specs.Prelude.{◌≡◌, ◌≤◌, ◌<◌, ◌⊎◌, ⊤, ℕ, ◌+◌, Bool, List, [], ◌∷◌, ◌++◌, length, take, drop, Result, Ok, Err, MatchResult}
use Rattle.dnw_base.specs.DnsClasses.{class_code}
use Rattle.dnw_base.specs.Limits.{max_data, max_name}
use Rattle.dnw_base.specs.RecordTypes.{type_code}
use Rattle.dnw_c_base.specs.declared.failure.Failure.{Failure}
use Rattle.dnw_c_base.specs.declared.failure.Failure.TheVariants.{BadItem, NoRoom}
use Rattle.dnw_c_zone.specs.ZoneEntries.{zone_record_octets}
use Rattle.dnw_c_zone.specs.ZonePlaces.{moved}
use Rattle.dnw_c_zone.specs.ZoneStates.{IsContextOf, LacksContext, owner_form, place_of_state, zone_state_of}
use Rattle.dnw_c_zone.specs.declared.zone_rows.ZoneRead.{ZoneRead}
use Rattle.dnw_c_zone.specs.declared.zone_rows.ZoneRow.{ZoneRow}
use Rattle.dnw_c_zone.specs.declared.zone_state.ZoneState.{ZoneState}
use Rattle.dnw_name_read.specs.Buffers.{put}
use Rattle.dnw_zone_file.specs.Steps.{IsStep}
use Rattle.dnw_zone_file.specs.declared.context.Context.{Context}
use Rattle.dnw_zone_file.specs.declared.entry.Entry.{Entry}
use Rattle.dnw_zone_file.specs.declared.entry.Entry.TheVariants.{Nothing, Record as RecordEntry, Include as IncludeEntry}
use Rattle.dnw_zone_file.specs.declared.entry.ZoneRecord.{ZoneRecord}
use Rattle.dnw_zone_file.specs.declared.error.ZoneError.{ZoneError}
use Rattle.dnw_zone_file.specs.declared.step.Found.{Found}
use Rattle.dnw_zone_file.specs.declared.step.Found.TheVariants.{Entry as IsOne, End, More}
use Rattle.dnw_zone_file.specs.declared.step.Step.{Step}

-- the most octets of a record: of its owner and its data, and ten between them (RFC 1035, section 3.2.1)
abbrev pub max_record : ℕ
max_record = max_name + 10 + max_data

-- What was read of a text: so many octets of it, the rows and the octets of its records, and what is known after them.
pub record ZoneRun : Type 0 where
  pub used : ℕ
  pub rows : List ZoneRow
  pub octets : List ℕ
  pub known : Context

abbrev pub nothing_read : Context → ZoneRun
nothing_read known = record { used = 0; rows = []; octets = []; known = known }

-- Of so many rows and so much room for octets, so much is used: one row is left, and room for any record, or not.
abbrev pub HasRecordRoom : ℕ → ℕ → ℕ → ℕ → Type 0
HasRecordRoom rows octets row_count octets_len = (row_count < rows) × (octets_len + max_record ≤ octets)

abbrev pub LacksRecordRoom : ℕ → ℕ → ℕ → ℕ → Type 0
LacksRecordRoom rows octets row_count octets_len = (rows ≤ row_count) ⊎ (octets < octets_len + max_record)

-- ---- entries

-- the row of a record of this owner: where its entry begins in the text, and its octets among all
abbrev pub zone_row : ℕ → ℕ → List ℕ → ZoneRecord → ZoneRow
zone_row offset start owner r = record {
  offset = offset;
  start = start;
  len = length (zone_record_octets owner r);
  name_len = length owner;
  data_len = length r.wire.items;
  ttl = r.ttl;
  record_type = type_code r.record_type;
  record_class = class_code r.class;
}

-- what was read after an entry more, which is no record, and after a record more
abbrev pub run_on : ZoneRun → ℕ → Context → ZoneRun
run_on run used known = record { used = run.used + used; rows = run.rows; octets = run.octets; known = known }

abbrev pub run_with : ZoneRun → ℕ → Context → ZoneRecord → ZoneRun
run_with run used known r =
    let owner = owner_form known.owner in
    record {
      used = run.used + used;
      rows = run.rows ++ (zone_row run.used (length run.octets) owner r ∷ []);
      octets = run.octets ++ zone_record_octets owner r;
      known = known;
    }

-- An `$INCLUDE` is not read on.
abbrev pub IsRunOn : Entry → ZoneRun → ℕ → Context → ZoneRun → Type 0
IsRunOn Nothing run used known next = next ≡ run_on run used known
IsRunOn (RecordEntry r) run used known next = next ≡ run_with run used known r
IsRunOn (IncludeEntry include) run used known next = ⊥

-- Entries of a text are read one after the other, as long as there is room: so many rows, and so many octets.
pub data ReadsInTurn (text : List ℕ) (more : Bool) (rows octets : ℕ) (first : Context) : ZoneRun → Type 0 where
  none : ReadsInTurn text more rows octets first (nothing_read first)
  one_more : (run next : ZoneRun) (entry : Entry) (used : ℕ) (known : Context) → ReadsInTurn text more rows octets first run
      → HasRecordRoom rows octets (length run.rows) (length run.octets) → IsStep run.known (drop run.used text) more (record { used = used; found = Ok (IsOne entry) }) known
      → IsRunOn entry run used known next → ReadsInTurn text more rows octets first next

-- ---- where it stops

-- the kind of what a text begins with, as the call for one entry puts it
abbrev pub kind_of_found : Result Found ZoneError → ℕ
kind_of_found (Ok End) = 0
kind_of_found (Ok More) = 1
kind_of_found (Ok (IsOne Nothing)) = 2
kind_of_found (Ok (IsOne (RecordEntry r))) = 3
kind_of_found (Ok (IsOne (IncludeEntry include))) = 4
kind_of_found (Err error) = 5

-- Neither a record begins there, nor what says something for later entries alone.
abbrev pub HasNoRow : Result Found ZoneError → Type 0
HasNoRow (Ok (IsOne Nothing)) = ⊥
HasNoRow (Ok (IsOne (RecordEntry r))) = ⊥
HasNoRow found = ⊤

-- No more is read, for want of room, or since what comes next has no row.
abbrev pub StopsWith : List ℕ → Bool → ℕ → ℕ → ZoneRun → ℕ → Type 0
StopsWith text more rows octets run next =
    (LacksRecordRoom rows octets (length run.rows) (length run.octets) × (next ≡ 3))
    ⊎ (HasRecordRoom rows octets (length run.rows) (length run.octets) × (step : Step) × (known : Context) × IsStep run.known (drop run.used text) more step known
    × HasNoRow step.found × (next ≡ kind_of_found step.found))

-- ---- calls

-- The rows and the octets are put at the front of their buffers, and what follows there is unchanged.
pub record PutsRun (run : ZoneRun) (rows new_rows : List ZoneRow) (octets new_octets : List ℕ) (used row_count octets_len : ℕ) : Type 0 where
  pub rows_put : new_rows ≡ run.rows ++ drop (length run.rows) rows
  pub octets_put : new_octets ≡ put octets run.octets
  pub used_is : used ≡ run.used
  pub row_count_is : row_count ≡ length run.rows
  pub octets_len_is : octets_len ≡ length run.octets
  pub rows_fit : length run.rows ≤ length rows
  pub octets_fit : length run.octets ≤ length octets

-- Entries of a text are read, after those that made the context, up to where it stops.
abbrev pub ReadsRun : List ℕ → Bool → Context → List ZoneRow → List ZoneRow → List ℕ → List ℕ → ZoneRead → ZoneRun → Type 0
ReadsRun text more first rows new_rows octets new_octets read run =
    ReadsInTurn text more (length rows) (length octets) first run × StopsWith text more (length rows) (length octets) run read.next
    × PutsRun run rows new_rows octets new_octets read.used read.row_count read.octets_len

-- The state says what the entries so far said. Entries of the text after these are read, and this state is after them. Or there is
-- no room for any record, or the state says nothing.
abbrev pub ReadsZone : List ℕ → Bool → ZoneState → List ZoneRow → List ZoneRow → List ℕ → List ℕ → Result (ZoneRead × ZoneState) Failure → Type 0
ReadsZone text more before rows new_rows octets new_octets result = MatchResult result
    (λ after. (max_record ≤ length octets) × (first : Context) × (run : ZoneRun) × IsContextOf before first
    × ReadsRun text more first rows new_rows octets new_octets after.0 run
    × (after.1 ≡ zone_state_of before run.known (moved (place_of_state before) (take run.used text))))
    (λ failure. (((length octets < max_record) × (failure ≡ NoRoom)) ⊎ ((max_record ≤ length octets) × LacksContext before × (failure ≡ BadItem)))
    × (new_rows ≡ rows) × (new_octets ≡ octets))
