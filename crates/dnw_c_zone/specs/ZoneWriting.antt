-- Zone files that C writes entry by entry (RFC 1035, section 5.1; RFC 2308, section 4): what a call puts of a record, of `$ORIGIN` and
-- of `$TTL`, and the state after it, which is that of a reader who took what was put.
use Rattle.std.specs.Prelude.{◌≡◌, ◌⊎◌, ℕ, List, [], length, Result}
use Rattle.dnw_base.specs.Names.{NameValue}
use Rattle.dnw_c_base.specs.Results.{Puts, Refuses}
use Rattle.dnw_c_base.specs.declared.failure.Failure.{Failure}
use Rattle.dnw_c_base.specs.declared.failure.Failure.TheVariants.{BadItem, NoMemory}
use Rattle.dnw_c_zone.specs.PrintCalls.{HasNoRecordAt}
use Rattle.dnw_c_zone.specs.ZoneFileCalls.{IsGivenOrigin, LacksOrigin}
use Rattle.dnw_c_zone.specs.ZonePlaces.{moved}
use Rattle.dnw_c_zone.specs.ZoneStates.{IsContextOf, LacksContext, place_of_state, zone_state_of}
use Rattle.dnw_c_zone.specs.declared.printing.PrintedRecord.{PrintedRecord}
use Rattle.dnw_c_zone.specs.declared.zone_state.ZoneState.{ZoneState}
use Rattle.dnw_record.specs.Records.{RecordAt, RecordValue}
use Rattle.dnw_zone_file.specs.ShortLines.{AppendsOrigin, AppendsShort, AppendsTtl}
use Rattle.dnw_zone_file.specs.declared.context.Context.{Context}

-- the state after this text, which says what the context says
abbrev pub state_after : ZoneState → Context → List ℕ → ZoneState
state_after before after text = zone_state_of before after (moved (place_of_state before) text)

-- Nothing is put: the state says nothing, or memory runs out.
abbrev pub LacksState : ZoneState → Failure → Type 0
LacksState zone failure = (LacksContext zone × (failure ≡ BadItem)) ⊎ (failure ≡ NoMemory)

-- The line of a record that ends at an offset is put.
abbrev pub PutsShort : ZoneState → RecordValue → ℕ → List ℕ → List ℕ → Result (PrintedRecord × ZoneState) Failure → Type 0
PutsShort zone r end old new result =
    ((before : Context) × (after : Context) × (line : List ℕ) × IsContextOf zone before × AppendsShort before r [] line after
    × Puts line (record { len = length line; end = end }, state_after zone after line) old new result)
    ⊎ Refuses (LacksState zone) old new result

-- The record at an offset of a message is put.
abbrev pub PutsZoneRecord : List ℕ → ℕ → ZoneState → List ℕ → List ℕ → Result (PrintedRecord × ZoneState) Failure → Type 0
PutsZoneRecord message start zone old new result =
    ((r : RecordValue) × (end : ℕ) × RecordAt message start r end × PutsShort zone r end old new result)
    ⊎ Refuses (HasNoRecordAt message start) old new result

-- `$ORIGIN` is put, with this name.
abbrev pub PutsOrigin : ZoneState → NameValue → List ℕ → List ℕ → Result (ℕ × ZoneState) Failure → Type 0
PutsOrigin zone origin old new result =
    ((before : Context) × (after : Context) × (line : List ℕ) × IsContextOf zone before × AppendsOrigin before origin [] line after
    × Puts line (length line, state_after zone after line) old new result)
    ⊎ Refuses (LacksState zone) old new result

-- It is put with the name of a wire form.
abbrev pub PutsZoneOrigin : List ℕ → ZoneState → List ℕ → List ℕ → Result (ℕ × ZoneState) Failure → Type 0
PutsZoneOrigin form zone old new result =
    ((origin : NameValue) × IsGivenOrigin form origin × PutsOrigin zone origin old new result) ⊎ Refuses (LacksOrigin form) old new result

-- `$TTL` is put.
abbrev pub PutsZoneTtl : ℕ → ZoneState → List ℕ → List ℕ → Result (ℕ × ZoneState) Failure → Type 0
PutsZoneTtl ttl zone old new result =
    ((before : Context) × (after : Context) × (line : List ℕ) × IsContextOf zone before × AppendsTtl before ttl [] line after
    × Puts line (length line, state_after zone after line) old new result)
    ⊎ Refuses (LacksState zone) old new result
