-- What follows from the definitions of reverse names. Each is the clause of a public function, and so proved.
use Rattle.std.specs.Prelude.{◌≡◌, ◌↔◌, Result, Ok}
use Rattle.std.specs.Net.Addr.{MatchIp, IsIpv4Addr, IsIpv6Addr}
use Rattle.std.specs.Str.{chars}
use Rattle.std.specs.declared.net.ip_addr.IpAddr.{IpAddr}
use Rattle.dnw_base.specs.declared.error.ProtoError.{ProtoError}
use Rattle.dnw_base.specs.Names.{NameValue}
use Rattle.dnw_name_text.specs.AsciiText.{name_from_text, name_text}
use Rattle.dnw_name_arpa.specs.NetTexts.{net_addr, net_prefix_len, ip_size}
use Rattle.dnw_name_arpa.specs.declared.net.IpNet.{IpNet}
use Rattle.dnw_name_arpa.specs.Arpa.{ArpaPrefix, arpa_name, GivesPrefix, IsArpaPrefix, arpa_prefix, ip_prefix, reverse_name}
use Rattle.dnw_name_arpa.specs.ArpaNets.{ReadsNet}

-- A name gives the prefix that it is said to give, and no other.
abbrev pub NamesGivePrefixes : Type 0
NamesGivePrefixes = (n : NameValue) (p : ArpaPrefix) → (arpa_prefix n ≡ Ok p) ↔ GivesPrefix n p

-- what the types of addresses keep
abbrev pub IsIpAddr : IpAddr → Type 0
IsIpAddr ip = MatchIp ip IsIpv4Addr IsIpv6Addr

-- A prefix goes to its name and comes back, and over the name's text as well.
abbrev pub PrefixesComeBack : Type 0
PrefixesComeBack = (p : ArpaPrefix) → IsArpaPrefix p → arpa_prefix (arpa_name p) ≡ Ok p

abbrev pub TextsComeBack : Type 0
TextsComeBack = (p : ArpaPrefix) → IsArpaPrefix p → name_from_text (chars (name_text (arpa_name p))) ≡ Ok (arpa_name p)

-- The values of an address are a prefix.
abbrev pub AddressesArePrefixes : Type 0
AddressesArePrefixes = (ip : IpAddr) → IsIpAddr ip → IsArpaPrefix (ip_prefix ip)

-- The reverse name of an address is read, and the net that is read has that address and all of its bits.
abbrev pub AddressesComeBack : Type 0
AddressesComeBack = (ip : IpAddr) → IsIpAddr ip → (outcome : Result IpNet ProtoError) → ReadsNet (arpa_prefix (reverse_name ip)) outcome
    → (net : IpNet) × (outcome ≡ Ok net) × (net_addr net ≡ ip) × (net_prefix_len net ≡ ip_size ip)
