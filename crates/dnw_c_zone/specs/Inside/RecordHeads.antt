-- The octets of a record between its owner and its data (RFC 1035, section 3.2.1).
use Rattle.std.specs.Prelude.{ℕ, List, ◌++◌, length}
use Rattle.std.specs.Int.{w16, w32, to_be_bytes}
use Rattle.dnw_base.specs.DnsClasses.{class_code}
use Rattle.dnw_base.specs.RecordTypes.{type_code}
use Rattle.dnw_zone_file.specs.declared.entry.ZoneRecord.{ZoneRecord}

-- the type, the class, the time to live and the number of octets of data
abbrev pub record_head : ZoneRecord → List ℕ
record_head r =
    to_be_bytes w16 (type_code r.record_type) ++ to_be_bytes w16 (class_code r.class) ++ to_be_bytes w32 r.ttl
    ++ to_be_bytes w16 (length r.wire.items)
