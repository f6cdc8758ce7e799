-- What a caller's plain state says of a zone file that is read, and which state says what its entries said so far.
use Rattle.std.specs.Prelude.{◌≡◌, ◌⊎◌, ℕ, ◌==◌, if◌then◌else◌, List, [], length, take, replicate, Option, Some, None}
use Rattle.dnw_base.specs.DnsClasses.{class_code, class_of_code}
use Rattle.dnw_base.specs.Names.{NameValue, wire}
use Rattle.dnw_c_base.specs.declared.failure.Failure.{Failure}
use Rattle.dnw_c_zone.specs.ParseCalls.{IsNoOrigin, IsOrigin}
use Rattle.dnw_c_zone.specs.declared.zone_place.FilePlace.{FilePlace}
use Rattle.dnw_c_zone.specs.declared.zone_state.ZoneState.{ZoneState}
use Rattle.dnw_name_read.specs.Buffers.{put}
use Rattle.dnw_zone_file.specs.declared.context.Context.{Context}

-- the wire form of the last owner, and no octets without one
abbrev pub owner_form : Option (List (List ℕ)) → List ℕ
owner_form (Some labels) = wire labels
owner_form None = []

-- a time, with a flag that is 0 if there is none
abbrev pub or_zero : Option ℕ → ℕ
or_zero (Some number) = number
or_zero None = 0

abbrev pub has_number : Option ℕ → ℕ
has_number (Some number) = 1
has_number None = 0

abbrev pub time_of : ℕ → ℕ → Option ℕ
time_of present number = if present == 0 then None else Some number

-- a state that says nothing
abbrev pub no_state : ZoneState
no_state = record {
  offset = 0;
  line = 0;
  column = 0;
  default_ttl = 0;
  last_ttl = 0;
  fallback_ttl = 0;
  generate_limit = 0;
  generate_next = 0;
  record_class = 0;
  has_default_ttl = 0;
  has_last_ttl = 0;
  has_fallback_ttl = 0;
  has_generate_next = 0;
  origin_len = 0;
  owner_len = 0;
  origin = replicate 255 0;
  owner = replicate 255 0;
}

-- The state that says at a place what the entries so far said. The octets after a name in its room are those of the state before, and so
-- is what it says of a `$GENERATE`.
abbrev pub zone_state_of : ZoneState → Context → FilePlace → ZoneState
zone_state_of before context at = record {
  offset = at.offset;
  line = at.line;
  column = at.column;
  default_ttl = or_zero context.default_ttl;
  last_ttl = or_zero context.last_ttl;
  fallback_ttl = or_zero context.fallback_ttl;
  generate_limit = before.generate_limit;
  generate_next = before.generate_next;
  record_class = class_code context.class;
  has_default_ttl = has_number context.default_ttl;
  has_last_ttl = has_number context.last_ttl;
  has_fallback_ttl = has_number context.fallback_ttl;
  has_generate_next = before.has_generate_next;
  origin_len = length (wire context.origin.labels);
  owner_len = length (owner_form context.owner);
  origin = put before.origin (wire context.origin.labels);
  owner = put before.owner (owner_form context.owner);
}

-- the state within a `$GENERATE`, of whose next record this is the number, or outside
abbrev pub with_next : ZoneState → Option ℕ → ZoneState
with_next zone next = record zone { generate_next = or_zero next; has_generate_next = has_number next }

-- the place up to which a state has read
abbrev pub place_of_state : ZoneState → FilePlace
place_of_state zone = record { offset = zone.offset; line = zone.line; column = zone.column }

-- the octets of a state's origin, and of its owner
abbrev pub origin_octets : ZoneState → List ℕ
origin_octets zone = take zone.origin_len zone.origin

abbrev pub owner_octets : ZoneState → List ℕ
owner_octets zone = take zone.owner_len zone.owner

abbrev pub labels_of_name : Option NameValue → Option (List (List ℕ))
labels_of_name (Some name) = Some name.labels
labels_of_name None = None

-- The state says this of the entries so far: its origin is a wire form, and its owner is one, or no octets for none.
abbrev pub IsContextOf : ZoneState → Context → Type 0
IsContextOf zone context =
    (owner : Option NameValue) × IsOrigin (origin_octets zone) (Some context.origin) × IsOrigin (owner_octets zone) owner
    × (context.owner ≡ labels_of_name owner) × (context.default_ttl ≡ time_of zone.has_default_ttl zone.default_ttl)
    × (context.last_ttl ≡ time_of zone.has_last_ttl zone.last_ttl) × (context.fallback_ttl ≡ time_of zone.has_fallback_ttl zone.fallback_ttl)
    × (context.class ≡ class_of_code zone.record_class)

-- It says nothing: its origin is no wire form, or its owner is none.
abbrev pub LacksContext : ZoneState → Type 0
LacksContext zone =
    IsOrigin (origin_octets zone) None
    ⊎ ((failure : Failure) × IsNoOrigin (origin_octets zone) failure)
    ⊎ ((failure : Failure) × IsNoOrigin (owner_octets zone) failure)
