use Rattle.std.proofs.Common.{List, ℕ, ◌++◌, refl, ap, ◌∙◌}
use Rattle.std.specs.Net.Addr.{ipv4_octets, ipv6_segments}
use Rattle.dnw_data.specs.Values.{ipv4, ipv6}
use Rattle.std.specs.Option.{option_copied}
use Rattle.dnw_zone_data.proofs.NumberKinds.{as_number}
use Rattle.dnw_zone_data.proofs.parsing.parse_word.Goals as goal

pub returns-in-Name : goal.returns-in-Name
returns-in-Name c = rw c.in-Name.is c.parse_name.ensures

pub returns-in-Counted : goal.returns-in-Counted
returns-in-Counted c = rw c.in-Counted.is c.parse_counted.ensures

pub returns-in-TypeCode : goal.returns-in-TypeCode
returns-in-TypeCode c = rw c.in-TypeCode.is c.parse_type.ensures

pub returns-in_default-parse_ascii : goal.returns-in_default-parse_ascii
returns-in_default-parse_ascii c = rw c.in-Ipv4.is (λ value own. c.in_default-parse_ascii.ensures own.0 own.1)

pub returns-in_default-parse_ascii-2 : goal.returns-in_default-parse_ascii-2
returns-in_default-parse_ascii-2 c = rw c.in-Ipv6.is (λ value own. c.in_default-parse_ascii-2.ensures own.0 own.1)

pub returns-in-U48 : goal.returns-in-U48
returns-in-U48 c = rw c.in-U48.is c.parse_eui48.ensures

pub returns-in-U64 : goal.returns-in-U64
returns-in-U64 c = rw c.in-U64.is c.parse_eui64.ensures

pub returns-in-Locator : goal.returns-in-Locator
returns-in-Locator c = rw c.in-Locator.is c.parse_locator.ensures

pub returns-in-NodeNumber : goal.returns-in-NodeNumber
returns-in-NodeNumber c = rw c.in-NodeNumber.is c.parse_node_number.ensures

pub returns-in_default-kind-3 : goal.returns-in_default-kind-3
returns-in_default-kind-3 c =
    let no = c.in_default-kind-3 in
    as_number (option_copied c.args.origin) c.args.form c.args.kind c.args.word.now c.args.out.now.items c.parse_number.new.out.items c.parse_number.result c.in_default.not-Name no.not-Ipv4 no.not-Ipv6 no.not-TypeCode no.not-U48 no.not-U64 no.not-Locator no.not-NodeNumber c.in_default-kind.not-Counted c.in_default-kind-2.not-Octets c.parse_number.ensures

pub returns-in_ok-extend_from_slice-in-Ipv4 : goal.returns-in_ok-extend_from_slice-in-Ipv4
returns-in_ok-extend_from_slice-in-Ipv4 c =
    let a = c.in-Ok.address in
    rw c.in-Ipv4.is (ipv4 (ipv4_octets a), (a, c.in-Ok.ensures, refl), c.in_ok-extend_from_slice-in-Ipv4.ensures.items ∙ ap (λ (xs : List ℕ). c.args.out.now.items ++ xs) c.octets.ensures)

pub returns-in_ok-extend_from_slice-in-Ipv6 : goal.returns-in_ok-extend_from_slice-in-Ipv6
returns-in_ok-extend_from_slice-in-Ipv6 c =
    let a = c.in-Ok-parse_ascii.address in
    rw c.in-Ipv6.is (ipv6 (ipv6_segments a), (a, c.in-Ok-parse_ascii.ensures, refl), c.in_ok-extend_from_slice-in-Ipv6.ensures.items ∙ ap (λ (xs : List ℕ). c.args.out.now.items ++ xs) c.octets-in-Ipv6.ensures)
