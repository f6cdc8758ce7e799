-- What the functions for C put of what an EDNS option says, and of the octets that say it.
use Rattle.std.specs.Prelude.{◌≡◌, ◌⊎◌, ℕ, if◌then◌else◌, true, false, Option, Some, None, Result, Ok, Err, List, length, replicate}
use Rattle.std.specs.Str.{is_utf8}
use Rattle.dnw_base.specs.Names.{wire}
use Rattle.dnw_message_read.specs.declared.code.OptionCode.{OptionCode}
use Rattle.dnw_message_read.specs.declared.code.OptionCode.TheVariants as codes
use Rattle.dnw_message_read.specs.declared.option_error.OptionError.{OptionError}
use Rattle.dnw_message_read.specs.declared.option_error.OptionError.TheVariants.{Length, Prefix, Bits, Name, Text, Named, Memory}
use Rattle.dnw_message_read.specs.Codes.{option_of_code}
use Rattle.dnw_message_read.specs.Reading.{OptionOutcome, ReadsOption}
use Rattle.dnw_message_read.specs.Rules.{option_octets, value_fault}
use Rattle.dnw_message_read.specs.Values.{OptionFields, VersionValue, nsid, client_subnet, expire, cookie, tcp_keepalive, padding, chain, extended_error, report_channel, zone_version, unknown}
use Rattle.dnw_c_base.specs.Results.{GivesOr, Puts, Refuses}
use Rattle.dnw_c_base.specs.declared.failure.Failure.{Failure}
use Rattle.dnw_c_base.specs.declared.failure.Failure.TheVariants as why
use Rattle.dnw_c_messages.specs.declared.option_parts.OptionParts.{OptionParts}

-- an option that says no more than so many octets from an offset on
abbrev pub only : ℕ → ℕ → OptionParts
only offset len = record {
  is_given = true;
  source = 0;
  scope = 0;
  labels = 0;
  version_type = 0;
  family = 0;
  timeout = 0;
  info_code = 0;
  seconds = 0;
  client = replicate 8 0;
  offset = offset;
  len = len;
}

-- an option that may be empty, and is
abbrev pub not_given : OptionParts
not_given = record (only 0 0) { is_given = false }

-- What an option says, in parts: the numbers of which its RFC speaks, the cookie of a client, and how many octets come after them. What
-- it has none of is 0.
abbrev pub parts_said : OptionFields → OptionParts
parts_said (nsid octets) = only 0 (length octets)
parts_said (client_subnet family source scope address) = record (only 4 (length address)) { family = family; source = source; scope = scope }
parts_said (expire None) = not_given
parts_said (expire (Some seconds)) = record (only 4 0) { seconds = seconds }
parts_said (cookie client server) = record (only 8 (length server)) { client = client }
parts_said (tcp_keepalive None) = not_given
parts_said (tcp_keepalive (Some timeout)) = record (only 2 0) { timeout = timeout }
parts_said (padding octets) = only 0 (length octets)
parts_said (chain None) = not_given
parts_said (chain (Some labels)) = only 0 (length (wire labels))
parts_said (extended_error code text) = record (only 2 (length text)) { info_code = code }
parts_said (report_channel labels) = only 0 (length (wire labels))
parts_said (zone_version None) = not_given
parts_said (zone_version (Some v)) = record (only 2 (length v.version)) { labels = v.labels; version_type = v.version_type }
parts_said (unknown code octets) = only 0 (length octets)

-- the failure that stands for a rule that is broken
abbrev pub of_option : OptionError → Failure
of_option Length = why.BadData
of_option Prefix = why.BadFamily
of_option Bits = why.BadFamily
of_option Name = why.BadData
of_option Text = why.NotUtf8
of_option Named = why.BadData
of_option Memory = why.NoMemory

-- An option with this code and these octets is read, and these are its parts; or it breaks a rule.
abbrev pub ReadsOptionParts : ℕ → List ℕ → Result OptionParts Failure → Type 0
ReadsOptionParts code octets = GivesOr
    (λ parts. (value : OptionFields) × ReadsOption (option_of_code code) octets (Ok value) × (parts ≡ parts_said value))
    (λ failure. (error : OptionError) × ReadsOption (option_of_code code) octets (Err error) × (failure ≡ of_option error))

-- ---- writing

-- a value that an option has, unless it is empty
abbrev pub given : {T : Type 0} → OptionParts → T → Option T
given p value = if p.is_given then Some value else None

-- the version of a zone, by its parts and its octets
abbrev pub version_given : OptionParts → List ℕ → VersionValue
version_given p own = record { labels = p.labels; version_type = p.version_type; version = own }

-- an extended error, about which these octets are a text
abbrev pub error_said : ℕ → List ℕ → OptionOutcome
error_said code own = if is_utf8 own then Ok (extended_error code own) else Err Text

-- What an option says by its parts and the octets that come after them; or these are no text or name.
abbrev pub SaysOption : OptionCode → OptionParts → List ℕ → OptionOutcome → Type 0
SaysOption codes.ClientSubnet p own result = result ≡ Ok (client_subnet p.family p.source p.scope own)
SaysOption codes.Expire p own result = result ≡ Ok (expire (given p p.seconds))
SaysOption codes.Cookie p own result = result ≡ Ok (cookie p.client own)
SaysOption codes.TcpKeepalive p own result = result ≡ Ok (tcp_keepalive (given p p.timeout))
SaysOption codes.ExtendedError p own result = result ≡ error_said p.info_code own
SaysOption codes.ZoneVersion p own result = result ≡ Ok (zone_version (given p (version_given p own)))
SaysOption code p own result = ReadsOption code own result

-- No option says it: the octets are no text or name, or a rule is broken; or memory ran out.
abbrev pub FailsToWriteOption : OptionCode → OptionParts → List ℕ → Failure → Type 0
FailsToWriteOption code p own failure =
    ((error : OptionError) × SaysOption code p own (Err error) × (failure ≡ of_option error))
    ⊎ ((value : OptionFields) × (error : OptionError) × SaysOption code p own (Ok value) × (value_fault value ≡ Some error)
    × (failure ≡ of_option error))
    ⊎ (failure ≡ why.NoMemory)

-- The octets of an option that says it are put.
abbrev pub PutsOptionOctets : ℕ → OptionParts → List ℕ → List ℕ → List ℕ → Result ℕ Failure → Type 0
PutsOptionOctets code p own old new result =
    ((value : OptionFields) × SaysOption (option_of_code code) p own (Ok value) × (value_fault value ≡ None)
    × Puts (option_octets value) (length (option_octets value)) old new result)
    ⊎ Refuses (FailsToWriteOption (option_of_code code) p own) old new result
