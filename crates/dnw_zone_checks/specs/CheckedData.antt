-- When the data of two records are the same, and which data RFCs forbid though they are read.
use Rattle.std.specs.Prelude.{ℕ, ◌+◌, ◌-◌, ◌==◌, ◌&&◌, ◌||◌, Bool, true, nat_le, if◌then◌else◌, List, length, drop, slice_index, slice_range, Option, Some, None}
use Rattle.std.specs.Char.{is_ascii_alphanumeric}
use Rattle.std.specs.List.{list_all}
use Rattle.std.specs.Str.{bytes_eq, str_eq_ignore_ascii_case}
use Rattle.dnw_base.specs.TypeCodes.{ds_code, soa_code, zonemd_code}

-- ---- the same data

-- so many octets are after the names in data of SOA: five numbers (RFC 1035, section 3.3.13); CNAME and DNAME have a name alone
abbrev pub after_names : ℕ → ℕ
after_names code = if code == soa_code then 20 else 0

-- Data of SOA, CNAME and DNAME are the same if their names are, but for ASCII case (RFC 4343), and the octets after these.
abbrev pub are_same_data : ℕ → List ℕ → List ℕ → Bool
are_same_data code these others =
    str_eq_ignore_ascii_case these others && bytes_eq (drop (length these - after_names code) these) (drop (length others - after_names code) others)

-- ---- digests

-- CDS (RFC 7344, section 3.1), which has the data of DS
abbrev pub cds_code : ℕ
cds_code = 59

-- the size of a digest of DS and CDS, by its type (RFC 4034, section 5.1.3; RFC 4509; RFC 5933; RFC 6605; RFC 9558; RFC 9563)
abbrev pub ds_digest_size : ℕ → Option ℕ
ds_digest_size kind =
    if kind == 1 then Some 20 else if kind == 2 || kind == 3 || kind == 5 || kind == 6 then Some 32 else if kind == 4 then Some 48 else None

-- that of ZONEMD, by its hash algorithm (RFC 8976, section 2.2.3)
abbrev pub zone_digest_size : ℕ → Option ℕ
zone_digest_size algorithm = if algorithm == 1 then Some 48 else if algorithm == 2 then Some 64 else None

abbrev pub is_of_size : Option ℕ → ℕ → Bool
is_of_size None size = true
is_of_size (Some wanted) size = size == wanted

-- After four octets, of which the last is the digest's type, or six of ZONEMD, is a digest of that type's size. One of ZONEMD has at
-- least 12 octets, whatever its type is (RFC 8976, section 2.2.4).
abbrev pub has_whole_digest : ℕ → List ℕ → Bool
has_whole_digest code octets =
    if code == ds_code || code == cds_code then is_of_size (ds_digest_size (slice_index octets 3)) (length octets - 4)
    else if code == zonemd_code then nat_le 12 (length octets - 6) && is_of_size (zone_digest_size (slice_index octets 5)) (length octets - 6)
    else true

-- ---- tags

-- CAA (RFC 8659, section 4.1)
abbrev pub caa_code : ℕ
caa_code = 257

-- After an octet of flags and one of its length, the tag of CAA is there: letters and digits, at least one (RFC 8659, section 4.1).
abbrev pub has_caa_tag : ℕ → List ℕ → Bool
has_caa_tag code octets =
    let len = slice_index octets 1 in
    if code == caa_code then nat_le 1 len && nat_le (2 + len) (length octets) && list_all is_ascii_alphanumeric (slice_range octets 2 (2 + len)) else true
