use Rattle.std.proofs.Common.{length, ap, arith}
use Rattle.dnw_data.proofs.Addresses.{octets_length}
use Rattle.dnw_data.proofs.field.Field.append_to.Goals as goal

pub returns-in_ok-extend_from_slice-in-Ipv6-clause-of_type : goal.returns-in_ok-extend_from_slice-in-Ipv6-clause-of_type
returns-in_ok-extend_from_slice-in-Ipv6-clause-of_type c =
    rw c.in-Ipv6.is (omega (arith, octets_length c.in-Ipv6.address.segments, ap length c.octets-in-Ipv6.ensures))
