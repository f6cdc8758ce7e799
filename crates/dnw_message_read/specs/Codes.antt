-- The codes of options (IANA's registry "DNS EDNS0 Option Codes (OPT)"). Each row names the RFC.
use Rattle.std.specs.Prelude.{ℕ, ◌==◌, List, [], ◌∷◌, find, unwrap_or}
use Rattle.dnw_message_read.specs.declared.code.OptionCode.{OptionCode}
use Rattle.dnw_message_read.specs.declared.code.OptionCode.TheVariants.{Nsid, ClientSubnet, Expire, Cookie, TcpKeepalive, Padding, Chain, ExtendedError, ReportChannel, ZoneVersion, Unknown}

-- the table of the options
abbrev pub option_code : OptionCode → ℕ
option_code Nsid = 3  -- RFC 5001, section 2.3
option_code ClientSubnet = 8  -- RFC 7871, section 6
option_code Expire = 9  -- RFC 7314, section 2
option_code Cookie = 10  -- RFC 7873, section 4
option_code TcpKeepalive = 11  -- RFC 7828, section 3.1
option_code Padding = 12  -- RFC 7830, section 3
option_code Chain = 13  -- RFC 7901, section 4
option_code ExtendedError = 15  -- RFC 8914, section 2
option_code ReportChannel = 18  -- RFC 9567, section 5
option_code ZoneVersion = 19  -- RFC 9660, section 2
option_code (Unknown code) = code

-- the options that have a name of their own
abbrev pub named_options : List OptionCode
named_options = Nsid ∷ ClientSubnet ∷ Expire ∷ Cookie ∷ TcpKeepalive ∷ Padding ∷ Chain ∷ ExtendedError ∷ ReportChannel ∷ ZoneVersion ∷ []

-- the option with this code: the named one, or `Unknown` if none has it
unfoldable pub option_of_code : ℕ → OptionCode
option_of_code code = unwrap_or (find (λ option. option_code option == code) named_options) (Unknown code)
