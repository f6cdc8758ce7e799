-- What both families of nets have in common, and how nets are written: the address, a slash and the length of the prefix
-- in decimal (RFC 4632, section 3.1; RFC 4291, section 2.3).
use Rattle.std.specs.Prelude.{ℕ, ◌<◌, List, ◌++◌, codes, decimal}
use Rattle.std.specs.Net.Text.{ip_text}
use Rattle.std.specs.declared.net.ip_addr.IpAddr.{IpAddr}
use Rattle.std.specs.declared.net.ip_addr.IpAddr.TheVariants as Ip
use Rattle.dnw_base.specs.Fault.{IsMessage}
use Rattle.dnw_base.specs.declared.error.ProtoError.{ProtoError}
use Rattle.dnw_name_arpa.specs.Nets.{ipv4_size, ipv6_size}
use Rattle.dnw_name_arpa.specs.declared.net.IpNet.{IpNet}
use Rattle.dnw_name_arpa.specs.declared.net.IpNet.TheVariants.{V4, V6}

abbrev pub net_addr : IpNet → IpAddr
net_addr (V4 net) = Ip.V4 net.addr
net_addr (V6 net) = Ip.V6 net.addr

abbrev pub net_prefix_len : IpNet → ℕ
net_prefix_len (V4 net) = net.prefix_len
net_prefix_len (V6 net) = net.prefix_len

-- the bits of an address of either family
abbrev pub ip_size : IpAddr → ℕ
ip_size (Ip.V4 addr) = ipv4_size
ip_size (Ip.V6 addr) = ipv6_size

-- the prefix is longer than the address, and the error says so
abbrev pub IsPastSize : ℕ → ℕ → ProtoError → Type 0
IsPastSize size prefix_len e = (size < prefix_len) × IsMessage (codes "invalid prefix length") e

abbrev pub net_text : List ℕ → ℕ → List ℕ
net_text addr prefix_len = addr ++ codes "/" ++ decimal prefix_len

abbrev pub ip_net_text : IpNet → List ℕ
ip_net_text net = net_text (ip_text (net_addr net)) (net_prefix_len net)
