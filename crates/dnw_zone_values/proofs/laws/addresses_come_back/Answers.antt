use Rattle.std.proofs.NetLemmas.Texts.{IsDotted-ipv4_text, IsColonHex-ipv6_text}
use Rattle.std.proofs.NetLemmas.Theorems.{IsIpv4Text_unique, IsIpv6Text_unique}
use Rattle.dnw_zone_values.proofs.laws.addresses_come_back.Goals as goal

pub returns-clause-ipv4 : goal.returns-clause-ipv4
returns-clause-ipv4 c = λ a own.
    let spells = IsDotted-ipv4_text _ own.0 own.1 in
    (spells, λ other also. IsIpv4Text_unique _ other a also spells)

pub returns-clause-ipv6 : goal.returns-clause-ipv6
returns-clause-ipv6 c = λ a own.
    let spells = IsColonHex-ipv6_text _ own.0 own.1 in
    (spells, λ other also. IsIpv6Text_unique _ other a also spells)
