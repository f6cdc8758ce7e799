-- Zone files that C reads entry by entry (RFC 1035, section 5; RFC 2308, section 4): the state that a caller keeps, and what a call
-- puts of the next entry. What an entry is is said by the definitions of `dnw_zone_file`.
use Rattle.std.specs.Prelude.{◌≡◌, ◌⊎◌, ◌&&◌, nat_lt, ℕ, Bool, true, false, List, [], take, Option, Some, None, Result, Ok, Err, MatchResult}
use Rattle.dnw_base.specs.Names.{NameValue}
use Rattle.dnw_c_base.specs.Results.{Refuses}
use Rattle.dnw_c_base.specs.declared.failure.Failure.{Failure}
use Rattle.dnw_c_base.specs.declared.failure.Failure.TheVariants.{BadItem, MessageCut}
use Rattle.dnw_c_zone.specs.ParseCalls.{IsNoOrigin, IsOrigin}
use Rattle.dnw_c_zone.specs.ZoneEntries.{PutsFound}
use Rattle.dnw_c_zone.specs.ZonePlaces.{moved}
use Rattle.dnw_c_zone.specs.ZoneStates.{IsContextOf, LacksContext, no_state, place_of_state, time_of, with_next, zone_state_of}
use Rattle.dnw_c_zone.specs.declared.zone_entry.ZoneEntry.{ZoneEntry}
use Rattle.dnw_c_zone.specs.declared.zone_place.FilePlace.{FilePlace}
use Rattle.dnw_c_zone.specs.declared.zone_state.ZoneState.{ZoneState}
use Rattle.dnw_zone_file.specs.Contexts.{IsFirst, with_origin}
use Rattle.dnw_zone_file.specs.Generates.{IsGeneratedStep, is_generate}
use Rattle.dnw_zone_file.specs.Steps.{IsStep}
use Rattle.dnw_zone_file.specs.declared.context.Context.{Context}
use Rattle.dnw_zone_file.specs.declared.step.Step.{Step}

-- ---- the state

-- before the first octet of a file
abbrev pub file_start : FilePlace
file_start = record { offset = 0; line = 0; column = 0 }

-- The octets are the wire form of a name, or they are none.
abbrev pub IsGivenOrigin : List ℕ → NameValue → Type 0
IsGivenOrigin form name = IsOrigin form (Some name)

abbrev pub LacksOrigin : List ℕ → Failure → Type 0
LacksOrigin form failure = ((form ≡ []) × (failure ≡ MessageCut)) ⊎ IsNoOrigin form failure

-- The state before the first entry of a zone file with an origin is returned.
abbrev pub BeginsZone : List ℕ → Result ZoneState Failure → Type 0
BeginsZone form result = MatchResult result
    (λ zone. (origin : NameValue) × (context : Context) × IsGivenOrigin form origin × IsFirst origin context × (zone ≡ zone_state_of no_state context file_start))
    (LacksOrigin form)

-- The state before the first entry of a file that is included is returned: it has the origin, and all else as the state before.
abbrev pub IncludesFile : List ℕ → ZoneState → Result ZoneState Failure → Type 0
IncludesFile form before result = MatchResult result
    (λ zone. (origin : NameValue) × (context : Context) × IsGivenOrigin form origin × IsContextOf before context
    × (zone ≡ zone_state_of before (with_origin context origin) file_start))
    (λ failure. LacksOrigin form failure ⊎ (LacksContext before × (failure ≡ BadItem)))

-- ---- entries

-- What a text begins with is put, and this state is after it.
abbrev pub PutsStep : ZoneState → List ℕ → Step → Context → List ℕ → List ℕ → Result (ZoneEntry × ZoneState) Failure → Type 0
PutsStep before text step after old new (Ok (entry, zone)) =
    PutsFound (place_of_state before) text after step.used step.found old new (Ok entry)
    × (zone ≡ zone_state_of before after (moved (place_of_state before) (take step.used text)))
PutsStep before text step after old new (Err failure) =
    PutsFound (place_of_state before) text after step.used step.found old new (Err failure)

-- The caller wants a `$GENERATE` to be read, and the text begins with one.
abbrev pub is_generated : ZoneState → Step → Bool
is_generated before step = nat_lt 0 before.generate_limit && is_generate step.found

-- What it makes is put, and this state is after it.
abbrev pub PutsGenerated : ZoneState → List ℕ → Step → Option ℕ → Context → List ℕ → List ℕ → Result (ZoneEntry × ZoneState) Failure → Type 0
PutsGenerated before text step next after old new (Ok (entry, zone)) =
    PutsFound (place_of_state before) text after step.used step.found old new (Ok entry)
    × (zone ≡ with_next (zone_state_of before after (moved (place_of_state before) (take step.used text))) next)
PutsGenerated before text step next after old new (Err failure) =
    PutsFound (place_of_state before) text after step.used step.found old new (Err failure)

abbrev pub TakesGenerated : ZoneState → Context → List ℕ → ℕ → List ℕ → List ℕ → Result (ZoneEntry × ZoneState) Failure → Type 0
TakesGenerated before known text used old new result =
    (step : Step) × (next : Option ℕ) × (after : Context)
    × IsGeneratedStep known text used before.generate_limit (time_of before.has_generate_next before.generate_next) step next after
    × PutsGenerated before text step next after old new result

-- What the text begins with is put, or what it makes if it is a `$GENERATE` that is read.
abbrev pub PutsEntry : Bool → ZoneState → List ℕ → Step → Context → List ℕ → List ℕ → Result (ZoneEntry × ZoneState) Failure → Type 0
PutsEntry false before text step after old new result = PutsStep before text step after old new result
PutsEntry true before text step after old new result = TakesGenerated before after text step.used old new result

-- The state says what the entries so far said, and what the text begins with after these is put. Or the state says nothing.
abbrev pub TakesZoneEntry : List ℕ → Bool → ZoneState → List ℕ → List ℕ → Result (ZoneEntry × ZoneState) Failure → Type 0
TakesZoneEntry text more before old new result =
    ((context : Context) × (after : Context) × (step : Step) × IsContextOf before context × IsStep context text more step after
    × PutsEntry (is_generated before step) before text step after old new result)
    ⊎ Refuses (λ failure. LacksContext before × (failure ≡ BadItem)) old new result
