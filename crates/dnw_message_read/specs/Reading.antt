-- What the octets of an option say, or which rule they break.
use Rattle.std.specs.Prelude.{◌≡◌, ◌≢◌, ℕ, ◌==◌, nat_lt, if◌then◌else◌, Some, None, Result, Ok, Err, List, [], length, take, drop, slice_index, slice_range, ◌⊎◌}
use Rattle.std.specs.Int.{w16, w32, from_be_bytes}
use Rattle.std.specs.Str.{is_utf8}
use Rattle.dnw_base.specs.Names.{AreLabels, wire}
use Rattle.dnw_message_read.specs.declared.code.OptionCode.{OptionCode}
use Rattle.dnw_message_read.specs.declared.code.OptionCode.TheVariants as codes
use Rattle.dnw_message_read.specs.declared.option_error.OptionError.{OptionError}
use Rattle.dnw_message_read.specs.declared.option_error.OptionError.TheVariants.{Length, Name, Text}
use Rattle.dnw_message_read.specs.Codes.{option_of_code}
use Rattle.dnw_message_read.specs.Rules.{value_fault}
use Rattle.dnw_message_read.specs.Values.{OptionFields, nsid, client_subnet, expire, cookie, tcp_keepalive, padding, chain, extended_error, report_channel, zone_version, unknown}

abbrev pub OptionOutcome : Type 0
OptionOutcome = Result OptionFields OptionError

-- the value, if an option may say it
abbrev pub checked : OptionFields → OptionOutcome
checked value = elim (value_fault value) [ None ↦ Ok value | Some error ↦ Err error ]

-- a family of two octets, two prefixes of one, and the address (RFC 7871, section 6)
abbrev pub subnet_of : List ℕ → OptionOutcome
subnet_of octets =
    if nat_lt (length octets) 4 then Err Length
    else checked (client_subnet (from_be_bytes w16 (slice_range octets 0 2)) (slice_index octets 2) (slice_index octets 3) (drop 4 octets))

-- a number of four octets, or nothing (RFC 7314, section 2)
abbrev pub expire_of : List ℕ → OptionOutcome
expire_of octets = if length octets == 0 then Ok (expire None) else if length octets == 4 then Ok (expire (Some (from_be_bytes w32 octets))) else Err Length

-- eight octets of the client, and the server's (RFC 7873, section 4)
abbrev pub cookie_of : List ℕ → OptionOutcome
cookie_of octets = if nat_lt (length octets) 8 then Err Length else checked (cookie (take 8 octets) (drop 8 octets))

-- a number of two octets, or nothing (RFC 7828, section 3.1)
abbrev pub keepalive_of : List ℕ → OptionOutcome
keepalive_of octets = if length octets == 0 then Ok (tcp_keepalive None) else if length octets == 2 then Ok (tcp_keepalive (Some (from_be_bytes w16 octets))) else Err Length

-- a code of two octets, and UTF-8 (RFC 8914, section 2)
abbrev pub error_of : List ℕ → OptionOutcome
error_of octets =
    if nat_lt (length octets) 2 then Err Length
    else if is_utf8 (drop 2 octets) then Ok (extended_error (from_be_bytes w16 (slice_range octets 0 2)) (drop 2 octets))
    else Err Text

-- a count of labels, a type and a version, or nothing (RFC 9660, section 2)
abbrev pub version_of : List ℕ → OptionOutcome
version_of octets =
    if length octets == 0 then Ok (zone_version None)
    else if nat_lt (length octets) 2 then Err Length
    else checked (zone_version (Some (record { labels = slice_index octets 0; version_type = slice_index octets 1; version = drop 2 octets })))

-- ---- names, without pointers (RFC 1035, section 3.1)

-- The octets are the wire form of a name with these labels.
abbrev pub IsName : List ℕ → List (List ℕ) → Type 0
IsName octets labels = AreLabels labels × (octets ≡ wire labels)

-- They are that of none.
abbrev pub NoName : List ℕ → Type 0
NoName octets = (labels : List (List ℕ)) → AreLabels labels → octets ≢ wire labels

-- a name (RFC 9567, section 5)
abbrev pub ReadsNameOption : (List (List ℕ) → OptionFields) → List ℕ → OptionOutcome → Type 0
ReadsNameOption make octets (Ok value) = (labels : List (List ℕ)) × IsName octets labels × (value ≡ make labels)
ReadsNameOption make octets (Err error) = NoName octets × (error ≡ Name)

-- a name, or nothing (RFC 7901, sections 4 and 5.1)
abbrev pub ReadsChainOption : List ℕ → OptionOutcome → Type 0
ReadsChainOption octets result = ((octets ≡ []) × (result ≡ Ok (chain None))) ⊎ ((octets ≢ []) × ReadsNameOption (λ labels. chain (Some labels)) octets result)

-- ---- all

-- The octets of an option are read so.
abbrev pub ReadsOption : OptionCode → List ℕ → OptionOutcome → Type 0
ReadsOption codes.Nsid octets result = result ≡ Ok (nsid octets)
ReadsOption codes.ClientSubnet octets result = result ≡ subnet_of octets
ReadsOption codes.Expire octets result = result ≡ expire_of octets
ReadsOption codes.Cookie octets result = result ≡ cookie_of octets
ReadsOption codes.TcpKeepalive octets result = result ≡ keepalive_of octets
ReadsOption codes.Padding octets result = result ≡ Ok (padding octets)
ReadsOption codes.Chain octets result = ReadsChainOption octets result
ReadsOption codes.ExtendedError octets result = result ≡ error_of octets
ReadsOption codes.ReportChannel octets result = ReadsNameOption report_channel octets result
ReadsOption codes.ZoneVersion octets result = result ≡ version_of octets
ReadsOption (codes.Unknown code) octets result = result ≡ Ok (unknown code octets)

-- What an option says, or its code and its octets if they break a rule.
abbrev pub ReadsAnyOption : ℕ → List ℕ → OptionFields → Type 0
ReadsAnyOption code octets value =
    ReadsOption (option_of_code code) octets (Ok value)
    ⊎ ((error : OptionError) × ReadsOption (option_of_code code) octets (Err error) × (value ≡ unknown code octets))
