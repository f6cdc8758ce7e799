-- Texts as addresses.
use Rattle.std.specs.Prelude.{ℕ, List, Option, MatchOption}
use Rattle.std.specs.Net.Grammar.{IsIpText}
use Rattle.std.specs.declared.net.ip_addr.IpAddr.{IpAddr}

-- the address that a text writes, or none if it writes none
abbrev pub ReadsIp : List ℕ → Option IpAddr → Type 0
ReadsIp text ip = MatchOption ip ((a : IpAddr) → ¬ (IsIpText text a)) (IsIpText text)
