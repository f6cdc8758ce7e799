-- What an entry more changes of the buffers that rows and octets are put into, and of how far they are filled.
use Rattle.std.specs.Prelude.{◌≡◌, ◌≤◌, ⊤, ℕ, ◌+◌, Bool, List, ◌++◌, length, take, drop, slice_set, Result, Ok, Err}
use Rattle.dnw_base.specs.Limits.{max_data}
use Rattle.dnw_c_base.specs.declared.failure.Failure.{Failure}
use Rattle.dnw_c_zone.specs.ZoneEntries.{zone_record_octets}
use Rattle.dnw_c_zone.specs.ZoneRows.{HasNoRow, ReadsRun, ZoneRun, zone_row}
use Rattle.dnw_c_zone.specs.ZoneStates.{owner_form}
use Rattle.dnw_c_zone.specs.declared.zone_rows.ZoneRead.{ZoneRead}
use Rattle.dnw_c_zone.specs.declared.zone_rows.ZoneRow.{ZoneRow}
use Rattle.dnw_c_zone.specs.declared.zone_state.ZoneState.{ZoneState}
use Rattle.dnw_name_read.specs.Buffers.{put}
use Rattle.dnw_zone_file.specs.declared.context.Context.{Context}
use Rattle.dnw_zone_file.specs.declared.entry.Entry.TheVariants.{Nothing, Record as RecordEntry}
use Rattle.dnw_zone_file.specs.declared.entry.ZoneRecord.{ZoneRecord}
use Rattle.dnw_zone_file.specs.declared.error.ZoneError.{ZoneError}
use Rattle.dnw_zone_file.specs.declared.step.Found.{Found}
use Rattle.dnw_zone_file.specs.declared.step.Found.TheVariants.{Entry as IsOne}

-- what was read with the state after it, or the failure
abbrev pub with_read : Result ZoneRead Failure → ZoneState → Result (ZoneRead × ZoneState) Failure
with_read (Ok read) zone = Ok (read, zone)
with_read (Err failure) zone = Err failure

-- A record has no more data than any record may have.
abbrev pub FitsData : Result Found ZoneError → Type 0
FitsData (Ok (IsOne (RecordEntry r))) = length r.wire.items ≤ max_data
FitsData found = ⊤

-- So it is with what a text begins with. What has no row leaves what is known as it was.
pub record IsRowStep (found : Result Found ZoneError) (before after : Context) : Type 0 where
  pub fits : FitsData found
  pub stays : HasNoRow found → after ≡ before

-- The octets of a record of this owner are put after those that are there, and its row.
pub record AddsRow (owner : List ℕ) (r : ZoneRecord) (rows new_rows : List ZoneRow) (octets new_octets : List ℕ) (read after : ZoneRead) : Type 0 where
  pub row : new_rows ≡ slice_set rows read.row_count (zone_row read.used read.octets_len owner r)
  pub own : new_octets ≡ take read.octets_len octets ++ put (drop read.octets_len octets) (zone_record_octets owner r)
  pub fits : read.octets_len + length (zone_record_octets owner r) ≤ length octets
  pub counts : after ≡ record read { row_count = read.row_count + 1; octets_len = read.octets_len + length (zone_record_octets owner r) }

-- What a text begins with takes so many octets, and is put. After it this is known.
abbrev pub AddsEntry : Result Found ZoneError → ℕ → Context → List ZoneRow → List ZoneRow → List ℕ → List ℕ → ZoneRead → ZoneRead → Type 0
AddsEntry (Ok (IsOne Nothing)) used known rows new_rows octets new_octets read after =
    (new_rows ≡ rows) × (new_octets ≡ octets) × (after ≡ record read { used = read.used + used })
AddsEntry (Ok (IsOne (RecordEntry r))) used known rows new_rows octets new_octets read after =
    (next : ZoneRead) × AddsRow (owner_form known.owner) r rows new_rows octets new_octets read next × (after ≡ record next { used = read.used + used })
AddsEntry found used known rows new_rows octets new_octets read after = ⊥

-- Entries of a text are read, after those that made the context, up to where it stops, and this is known then.
abbrev pub IsRunTo : List ℕ → Bool → Context → List ZoneRow → List ZoneRow → List ℕ → List ℕ → ZoneRead → Context → Type 0
IsRunTo text more first rows new_rows octets new_octets read known =
    (run : ZoneRun) × ReadsRun text more first rows new_rows octets new_octets read run × (known ≡ run.known)
