-- What an option may say, and the octets that say it.
use Rattle.std.specs.Prelude.{◌≡◌, ℕ, ◌+◌, ◌*◌, ◌/◌, ◌%◌, ◌^◌, ◌<◌, ◌==◌, ◌||◌, ◌&&◌, max, nat_le, nat_lt, if◌then◌else◌, Bool, true, false, Option, Some, None, List, [], ◌∷◌, ◌++◌, length, slice_index}
use Rattle.std.specs.Int.{w16, w32, to_be_bytes}
use Rattle.std.specs.Str.{is_utf8}
use Rattle.dnw_base.specs.Names.{AreLabels, wire}
use Rattle.dnw_message_read.specs.declared.code.OptionCode.{OptionCode}
use Rattle.dnw_message_read.specs.declared.code.OptionCode.TheVariants as codes
use Rattle.dnw_message_read.specs.declared.option_error.OptionError.{OptionError}
use Rattle.dnw_message_read.specs.declared.option_error.OptionError.TheVariants.{Length, Prefix, Bits, Named}
use Rattle.dnw_message_read.specs.Codes.{option_of_code}
use Rattle.dnw_message_read.specs.Values.{OptionFields, nsid, client_subnet, expire, cookie, tcp_keepalive, padding, chain, extended_error, report_channel, zone_version, unknown}

-- ---- the network of a client (RFC 7871, section 6)

-- how many bits an address of a family has: IPv4 and IPv6; the RFC defines no other, and then no prefix is too long
abbrev pub most_bits : ℕ → ℕ
most_bits family = if family == 1 then 32 else if family == 2 then 128 else 255

-- the octets of so many bits
abbrev pub octets_for : ℕ → ℕ
octets_for bits = (bits + 7) / 8

-- the bits after a prefix in its last octet, at the high end of an octet
abbrev pub bits_after : ℕ → List ℕ → ℕ
bits_after source address = slice_index address (source / 8) * 2 ^ (source % 8) % 2 ^ 8

-- the prefixes are no longer than an address, and there are as many octets as the first takes, with no bit after it
abbrev pub network_fault : (family source scope : ℕ) → List ℕ → Option OptionError
network_fault family source scope address =
    if nat_lt (most_bits family) (max source scope) then Some Prefix
    else if length address == octets_for source then (if bits_after source address == 0 then None else Some Bits)
    else Some Length

-- ---- all

-- a cookie of a server has 8 to 32 octets, or it is left out (RFC 7873, section 4)
abbrev pub may_be_server : ℕ → Bool
may_be_server size = (size == 0) || (nat_le 8 size && nat_le size 32)

-- the serial number of a zone, which is the version of type 0, has four octets (RFC 9660, section 4)
abbrev pub may_be_version : ℕ → ℕ → Bool
may_be_version kind size = nat_lt 0 kind || (size == 4)

abbrev pub has_no_name : OptionCode → Bool
has_no_name (codes.Unknown code) = true
has_no_name code = false

-- why no option says this, if none does
abbrev pub value_fault : OptionFields → Option OptionError
value_fault (client_subnet family source scope address) = network_fault family source scope address
value_fault (cookie client server) = if may_be_server (length server) then None else Some Length
value_fault (zone_version (Some v)) = if may_be_version v.version_type (length v.version) then None else Some Length
value_fault (unknown code octets) = if has_no_name (option_of_code code) then None else Some Named
value_fault value = None

-- What the types say of it: numbers fit, labels are labels, a cookie of a client has eight octets, and a text is UTF-8.
abbrev pub IsOptionFields : OptionFields → Type 0
IsOptionFields (client_subnet family source scope address) = (family < 2 ^ 16) × (source < 2 ^ 8) × (scope < 2 ^ 8)
IsOptionFields (expire (Some seconds)) = seconds < 2 ^ 32
IsOptionFields (cookie client server) = length client ≡ 8
IsOptionFields (tcp_keepalive (Some timeout)) = timeout < 2 ^ 16
IsOptionFields (chain (Some labels)) = AreLabels labels
IsOptionFields (extended_error code text) = (code < 2 ^ 16) × (is_utf8 text ≡ true)
IsOptionFields (report_channel labels) = AreLabels labels
IsOptionFields (zone_version (Some v)) = (v.labels < 2 ^ 8) × (v.version_type < 2 ^ 8)
IsOptionFields value = Unit {0}

-- the option that says it
abbrev pub code_of : OptionFields → OptionCode
code_of (nsid octets) = codes.Nsid
code_of (client_subnet family source scope address) = codes.ClientSubnet
code_of (expire seconds) = codes.Expire
code_of (cookie client server) = codes.Cookie
code_of (tcp_keepalive timeout) = codes.TcpKeepalive
code_of (padding octets) = codes.Padding
code_of (chain labels) = codes.Chain
code_of (extended_error code text) = codes.ExtendedError
code_of (report_channel labels) = codes.ReportChannel
code_of (zone_version version) = codes.ZoneVersion
code_of (unknown code octets) = codes.Unknown code

-- the octets that say it: numbers have the high octet first, and names are not compressed
abbrev pub option_octets : OptionFields → List ℕ
option_octets (nsid octets) = octets
option_octets (client_subnet family source scope address) = to_be_bytes w16 family ++ source ∷ scope ∷ address
option_octets (expire None) = []
option_octets (expire (Some seconds)) = to_be_bytes w32 seconds
option_octets (cookie client server) = client ++ server
option_octets (tcp_keepalive None) = []
option_octets (tcp_keepalive (Some timeout)) = to_be_bytes w16 timeout
option_octets (padding octets) = octets
option_octets (chain None) = []
option_octets (chain (Some labels)) = wire labels
option_octets (extended_error code text) = to_be_bytes w16 code ++ text
option_octets (report_channel labels) = wire labels
option_octets (zone_version None) = []
option_octets (zone_version (Some v)) = v.labels ∷ v.version_type ∷ v.version
option_octets (unknown code octets) = octets
