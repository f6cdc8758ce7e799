-- What was put is a wire form once the zero of the last dot is its last octet.
use Rattle.dnw_name_text.proofs.PlainText.{PutsLengths_relative, PutsLengths_fqdn}
use Rattle.dnw_name_text.proofs.ascii.read_plain.Goals as goal

pub from_wire-requires : goal.from_wire-requires
from_wire-requires c = (PutsLengths_fqdn _ _ _ _ c.in_ok-is_fqdn.ensures c.if-is_fqdn.true c.pop.ensures).0

pub returns-then-is_fqdn : goal.returns-then-is_fqdn
returns-then-is_fqdn c =
    rw c.from_wire.ensures (PutsLengths_fqdn _ _ _ _ c.in_ok-is_fqdn.ensures c.if-is_fqdn.true c.pop.ensures).1

pub from_wire-requires-2 : goal.from_wire-requires-2
from_wire-requires-2 c = (PutsLengths_relative _ _ _ c.in_ok-is_fqdn.ensures c.if-is_fqdn.false).0

pub returns : goal.returns
returns c = rw c.from_wire-2.ensures (PutsLengths_relative _ _ _ c.in_ok-is_fqdn.ensures c.if-is_fqdn.false).1
