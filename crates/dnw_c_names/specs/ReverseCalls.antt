-- Reverse names of addresses that are bytes, and why there is none (RFC 1035, section 3.5; RFC 3596, section 2.5).
use Rattle.std.specs.Prelude.{◌≡◌, ◌≢◌, ◌⊎◌, ℕ, List, length, Result, Ok, Err}
use Rattle.std.specs.Net.Addr.{ipv4_octets, ipv6_octets, ipv6_segments, segments_of}
use Rattle.std.specs.declared.net.ip_addr.IpAddr.{IpAddr}
use Rattle.std.specs.declared.net.ip_addr.IpAddr.TheVariants.{V4, V6}
use Rattle.dnw_base.specs.Names.{NameValue}
use Rattle.dnw_name_arpa.specs.NetTexts.{net_addr, net_prefix_len}
use Rattle.dnw_name_arpa.specs.declared.net.IpNet.{IpNet}
use Rattle.dnw_name_arpa.specs.Arpa.{ArpaFault, ArpaPrefix, arpa_prefix, reverse_name}
use Rattle.dnw_name_arpa.specs.ArpaNets.{IsNetOf}
use Rattle.dnw_c_base.specs.Results.{Puts, Refuses}
use Rattle.dnw_c_base.specs.WireForms.{IsNoForm}
use Rattle.dnw_c_names.specs.NameEdits.{IsNameOf, PutsName}
use Rattle.dnw_c_base.specs.declared.failure.Failure.{Failure}
use Rattle.dnw_c_base.specs.declared.failure.Failure.TheVariants.{BadAddress, NotReverse}
use Rattle.dnw_c_names.specs.declared.reverse.ReadNet.{ReadNet}

-- The bytes are an address: 4 for IPv4, 16 for IPv6, the highest first.
abbrev pub IsAddress : List ℕ → IpAddr → Type 0
IsAddress bytes (V4 addr) = ipv4_octets addr ≡ bytes
IsAddress bytes (V6 addr) = (length bytes ≡ 16) × (ipv6_segments addr ≡ segments_of bytes)

-- the bytes of an address
abbrev pub address_octets : IpAddr → List ℕ
address_octets (V4 addr) = ipv4_octets addr
address_octets (V6 addr) = ipv6_octets addr

-- bytes that are neither 4 nor 16
abbrev pub IsNoAddress : List ℕ → Failure → Type 0
IsNoAddress address failure = (length address ≢ 4) × (length address ≢ 16) × (failure ≡ BadAddress)

-- The wire form of an address's reverse name is put.
abbrev pub PutsReverse : List ℕ → List ℕ → List ℕ → Result ℕ Failure → Type 0
PutsReverse address old new result =
    ((ip : IpAddr) × IsAddress address ip × PutsName (reverse_name ip) old new result) ⊎ Refuses (IsNoAddress address) old new result

-- The octets are the wire form of the reverse name of this net.
abbrev pub IsReverseOf : List ℕ → IpNet → Type 0
IsReverseOf form net = (n : NameValue) × IsNameOf form n × (p : ArpaPrefix) × (arpa_prefix n ≡ Ok p) × IsNetOf p net

-- The octets are the wire form of no reverse name.
abbrev pub IsNoReverse : List ℕ → Failure → Type 0
IsNoReverse form failure =
    IsNoForm form failure
    ⊎ ((n : NameValue) × IsNameOf form n × (fault : ArpaFault) × (arpa_prefix n ≡ Err fault) × (failure ≡ NotReverse))

-- The address of the net of a reverse name is put.
abbrev pub PutsNet : List ℕ → List ℕ → List ℕ → Result ReadNet Failure → Type 0
PutsNet form old new result =
    ((net : IpNet) × IsReverseOf form net
    × Puts (address_octets (net_addr net)) (record { len = length (address_octets (net_addr net)); prefix_len = net_prefix_len net }) old new result)
    ⊎ Refuses (IsNoReverse form) old new result
