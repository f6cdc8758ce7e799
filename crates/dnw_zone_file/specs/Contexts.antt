-- What earlier entries of a zone file say for later ones (RFC 1035, section 5.1; RFC 2308, section 4), and what the caller gives.
use Rattle.std.specs.Prelude.{◌≡◌, ℕ, ◌-◌, ◌&&◌, nat_le, if◌then◌else◌, List, drop, length, Option, Some, None}
use Rattle.std.specs.Int.{w32, from_be_bytes}
use Rattle.std.specs.Option.{option_or}
use Rattle.dnw_base.specs.Names.{NameValue}
use Rattle.dnw_base.specs.declared.dns_class.DNSClass.{DNSClass}
use Rattle.dnw_base.specs.declared.dns_class.DNSClass.TheVariants.{IN}
use Rattle.dnw_base.specs.declared.record_type.RecordType.{RecordType}
use Rattle.dnw_base.specs.declared.record_type.RecordType.TheVariants.{SOA}
use Rattle.dnw_zone_file.specs.declared.context.Context.{Context}
use Rattle.dnw_zone_file.specs.declared.head.Head.{Head}
use Rattle.dnw_zone_file.specs.Heads.{max_zone_ttl}

-- Before the first entry, no owner is known and no time to live, and the class is IN.
abbrev pub IsFirst : NameValue → Context → Type 0
IsFirst origin context =
    context ≡ record { origin = origin; owner = None; default_ttl = None; last_ttl = None; fallback_ttl = None; class = IN }

-- ---- times to live

-- What is stated of the time to live of a record: its own, or that of the last `$TTL`, or, without one, the last of a record that has
-- its own.
abbrev pub ttl_after : Context → Option ℕ → Option ℕ
ttl_after context own = option_or own (option_or context.default_ttl context.last_ttl)

-- the number that is the last four octets
abbrev pub last_number : List ℕ → ℕ
last_number octets = from_be_bytes w32 (drop (length octets - 4) octets)

-- the last four octets as a time to live
abbrev pub ttl_at_end : List ℕ → Option ℕ
ttl_at_end octets = if nat_le 4 (length octets) && nat_le (last_number octets) max_zone_ttl then Some (last_number octets) else None

-- the minimum of an SOA record, which is the last of its fields (RFC 1035, section 3.3.13); other records have none
abbrev pub soa_minimum : RecordType → List ℕ → Option ℕ
soa_minimum SOA wire = ttl_at_end wire
soa_minimum other wire = None

-- the minimum if no time to live is stated
abbrev pub unstated_minimum : Option ℕ → RecordType → List ℕ → Option ℕ
unstated_minimum (Some stated) kind wire = None
unstated_minimum None kind wire = soa_minimum kind wire

-- the minimum of a record that stands for its time to live, by what is between its owner and its data, and by these
abbrev pub minimum_after : Context → Head → List ℕ → Option ℕ
minimum_after context head wire = unstated_minimum (ttl_after context head.ttl) head.record_type wire

-- The time to live of a record: what is stated of it, or else the minimum of an SOA, or else what the caller gives.
abbrev pub record_ttl : Context → Head → List ℕ → Option ℕ
record_ttl context head wire = option_or (ttl_after context head.ttl) (option_or (minimum_after context head wire) context.fallback_ttl)

-- ---- what is known after entries

-- the class of a record: its own, or the last of a record that has its own
abbrev pub class_after : Context → Option DNSClass → DNSClass
class_after context (Some class) = class
class_after context None = context.class

-- what is known after a record
abbrev pub with_record : Context → List (List ℕ) → Head → Context
with_record context owner head = record {
  origin = context.origin;
  owner = Some owner;
  default_ttl = context.default_ttl;
  last_ttl = option_or head.ttl context.last_ttl;
  fallback_ttl = context.fallback_ttl;
  class = class_after context head.class;
}

-- after `$ORIGIN`
abbrev pub with_origin : Context → NameValue → Context
with_origin context name = record {
  origin = name;
  owner = context.owner;
  default_ttl = context.default_ttl;
  last_ttl = context.last_ttl;
  fallback_ttl = context.fallback_ttl;
  class = context.class;
}

-- after `$TTL`
abbrev pub with_ttl : Context → ℕ → Context
with_ttl context ttl = record {
  origin = context.origin;
  owner = context.owner;
  default_ttl = Some ttl;
  last_ttl = context.last_ttl;
  fallback_ttl = context.fallback_ttl;
  class = context.class;
}

-- A minimum that stands for a time to live does so for later records too, as if `$TTL` had it.
abbrev pub with_minimum : Context → Option ℕ → Context
with_minimum context minimum = record {
  origin = context.origin;
  owner = context.owner;
  default_ttl = option_or minimum context.default_ttl;
  last_ttl = context.last_ttl;
  fallback_ttl = context.fallback_ttl;
  class = context.class;
}
