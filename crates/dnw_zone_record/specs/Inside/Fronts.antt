-- The octets of a record before the length of its data (RFC 1035, section 3.2.1).
use Rattle.std.specs.Prelude.{ℕ, List, ◌++◌}
use Rattle.std.specs.Int.{w16, w32, to_be_bytes}
use Rattle.dnw_base.specs.DnsClasses.{class_code}
use Rattle.dnw_base.specs.RecordTypes.{type_code}
use Rattle.dnw_zone_record.specs.declared.record_line.LineHead.{LineHead}

-- the wire form of the owner, the type, the class and the time to live
abbrev pub front_octets : List ℕ → LineHead → List ℕ
front_octets owner head =
    owner ++ to_be_bytes w16 (type_code head.record_type) ++ to_be_bytes w16 (class_code head.class) ++ to_be_bytes w32 head.ttl
