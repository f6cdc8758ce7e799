-- The names of a state, by their octets, and what an entry leaves as it was of them.
use Rattle.std.specs.Prelude.{◌≡◌, ◌≤◌, ◌⊎◌, ℕ, Bool, true, false, List, [], length, Option, Some, None, Result, Ok}
use Rattle.dnw_base.specs.DnsClasses.{class_code}
use Rattle.dnw_c_base.specs.WireForms.{IsFormOf}
use Rattle.dnw_c_base.specs.declared.failure.Failure.{Failure}
use Rattle.dnw_c_zone.specs.ParseCalls.{IsNoOrigin}
use Rattle.dnw_c_zone.specs.ZoneStates.{has_number, or_zero}
use Rattle.dnw_c_zone.specs.declared.zone_place.FilePlace.{FilePlace}
use Rattle.dnw_c_zone.specs.declared.zone_state.ZoneState.{ZoneState}
use Rattle.dnw_name_read.specs.Buffers.{put}
use Rattle.dnw_zone_file.specs.declared.context.Context.{Context}
use Rattle.dnw_zone_file.specs.declared.entry.Entry.TheVariants.{Nothing, Record as RecordEntry}
use Rattle.dnw_zone_file.specs.declared.error.ZoneError.{ZoneError}
use Rattle.dnw_zone_file.specs.declared.step.Found.{Found}
use Rattle.dnw_zone_file.specs.declared.step.Found.TheVariants.{Entry as IsOne}

-- The octets are the wire form of an owner, or there are none, and there is no owner.
abbrev pub IsOwnerForm : List ℕ → Option (List (List ℕ)) → Type 0
IsOwnerForm form None = form ≡ []
IsOwnerForm form (Some labels) = IsFormOf form labels

-- There are octets, but they are no wire form.
abbrev pub IsNoStateName : List ℕ → Type 0
IsNoStateName form = (failure : Failure) × IsNoOrigin form failure

-- The octets are the wire form of no origin, which has to be there.
abbrev pub LacksStateName : List ℕ → Type 0
LacksStateName form = (form ≡ []) ⊎ IsNoStateName form

-- Both names are in their rooms.
abbrev pub NamesFit : ZoneState → Type 0
NamesFit zone = (zone.origin_len ≤ length zone.origin) × (zone.owner_len ≤ length zone.owner)

-- Only an entry without a record may change the origin, and only a record the owner.
abbrev pub changes_origin : Result Found ZoneError → Bool
changes_origin (Ok (IsOne Nothing)) = true
changes_origin found = false

abbrev pub changes_owner : Result Found ZoneError → Bool
changes_owner (Ok (IsOne (RecordEntry r))) = true
changes_owner found = false

-- The other names are kept.
pub record KeepsNames (found : Result Found ZoneError) (before after : Context) : Type 0 where
  pub origin : changes_origin found ≡ false → after.origin ≡ before.origin
  pub owner : changes_owner found ≡ false → after.owner ≡ before.owner

-- the state with another place, and what else is known than names
abbrev pub with_state_numbers : ZoneState → Context → FilePlace → ZoneState
with_state_numbers zone context at = record zone {
  offset = at.offset;
  line = at.line;
  column = at.column;
  default_ttl = or_zero context.default_ttl;
  last_ttl = or_zero context.last_ttl;
  fallback_ttl = or_zero context.fallback_ttl;
  record_class = class_code context.class;
  has_default_ttl = has_number context.default_ttl;
  has_last_ttl = has_number context.last_ttl;
  has_fallback_ttl = has_number context.fallback_ttl;
}

-- the state with another origin, and with another owner
abbrev pub with_origin_form : ZoneState → List ℕ → ZoneState
with_origin_form zone form = record zone { origin_len = length form; origin = put zone.origin form }

abbrev pub with_owner_form : ZoneState → List ℕ → ZoneState
with_owner_form zone form = record zone { owner_len = length form; owner = put zone.owner form }
