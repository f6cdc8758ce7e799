-- Nets: an address, and how many of its first bits name the net (RFC 4632, section 3.1; RFC 4291, section 2.3).
use Rattle.std.specs.Prelude.{ℕ}

-- the bits of an address
abbrev pub ipv4_size : ℕ
ipv4_size = 32

abbrev pub ipv6_size : ℕ
ipv6_size = 128

-- A net of addresses of the type A. The bits past the prefix are kept as they are.
pub record NetValue (A : Type 0) : Type 0 where
  pub addr : A
  pub prefix_len : ℕ
