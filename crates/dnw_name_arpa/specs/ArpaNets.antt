-- The net that a reverse name stands for: its prefix, and zeros in the place of what the name leaves out.
use Rattle.std.specs.Prelude.{◌≡◌, ◌*◌, length, Result, Ok, Err}
use Rattle.dnw_base.specs.declared.error.ProtoError.{ProtoError}
use Rattle.dnw_name_arpa.specs.NetTexts.{net_addr, net_prefix_len}
use Rattle.dnw_name_arpa.specs.declared.net.IpNet.{IpNet}
use Rattle.dnw_name_arpa.specs.Arpa.{ArpaPrefix, ArpaFault, FailsArpa, ip_prefix, padded, most_values, value_bits}

-- the prefix with zeros up to the number of octets or nibbles that an address has
abbrev pub filled_up : ArpaPrefix → ArpaPrefix
filled_up p = record { family = p.family; values = padded (most_values p.family) p.values }

-- The net has the address that begins with the prefix, and the prefix's bits.
pub record IsNetOf (p : ArpaPrefix) (net : IpNet) : Type 0 where
  pub addr : ip_prefix (net_addr net) ≡ filled_up p
  pub bits : net_prefix_len net ≡ value_bits p.family * length p.values

-- A call returns the net of the prefix that the definition says, or fails with the error that reports the fault.
abbrev pub ReadsNet : Result ArpaPrefix ArpaFault → Result IpNet ProtoError → Type 0
ReadsNet definition (Ok net) = (p : ArpaPrefix) × (definition ≡ Ok p) × IsNetOf p net
ReadsNet definition (Err e) = FailsArpa definition e
