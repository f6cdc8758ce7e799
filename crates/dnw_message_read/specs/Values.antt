-- What options say.
use Rattle.std.specs.Prelude.{ℕ, Option, Some, None, List}
use Rattle.dnw_message_read.specs.declared.option.OptionData.{OptionData}
use Rattle.dnw_message_read.specs.declared.option.OptionData.TheVariants as options
use Rattle.dnw_message_read.specs.declared.option.ZoneVersion.{ZoneVersion}

-- The version of a zone: how many labels of a name are the zone's, what the version is, and its octets.
pub record VersionValue : Type 0 where
  pub labels : ℕ
  pub version_type : ℕ
  pub version : List ℕ

-- What an option says: octets; a network by its family, the bits that are given, those of a response, and octets; a time that may be
-- left out; cookies of a client and a server; the labels of a name that may be left out; a code and the UTF-8 of a text; the labels
-- of a name; a version that may be left out; or a code and octets.
pub data OptionFields : Type 0 where
  nsid : List ℕ → OptionFields
  client_subnet : (family source scope : ℕ) → List ℕ → OptionFields
  expire : Option ℕ → OptionFields
  cookie : (client server : List ℕ) → OptionFields
  tcp_keepalive : Option ℕ → OptionFields
  padding : List ℕ → OptionFields
  chain : Option (List (List ℕ)) → OptionFields
  extended_error : ℕ → List ℕ → OptionFields
  report_channel : List (List ℕ) → OptionFields
  zone_version : Option VersionValue → OptionFields
  unknown : ℕ → List ℕ → OptionFields

abbrev pub seen_version : Option ZoneVersion → Option VersionValue
seen_version None = None
seen_version (Some v) = Some (record { labels = v.labels; version_type = v.version_type; version = v.version.now })

-- what a contract sees of an option
abbrev pub seen_option : OptionData → OptionFields
seen_option (options.Nsid octets) = nsid octets.now
seen_option (options.ClientSubnet family source scope address) = client_subnet family source scope address.now
seen_option (options.Expire seconds) = expire seconds
seen_option (options.Cookie client server) = cookie client server.now
seen_option (options.TcpKeepalive timeout) = tcp_keepalive timeout
seen_option (options.Padding octets) = padding octets.now
seen_option (options.Chain name) = chain name
seen_option (options.ExtendedError code text) = extended_error code text.now
seen_option (options.ReportChannel name) = report_channel name
seen_option (options.ZoneVersion version) = zone_version (seen_version version)
seen_option (options.Unknown code octets) = unknown code octets.now
