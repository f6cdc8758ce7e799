use Rattle.std.proofs.Common.{List, length}
use Rattle.dnw_base.specs.declared.record_type.RecordType.{RecordType}
use Rattle.dnw_zone_data.specs.Inside.TypeWords.{LeadToTypes}
use Rattle.dnw_zone_data.proofs.FirstWindow.{Lists}
use Rattle.dnw_zone_data.proofs.types.parse_first_window.Given as goal

-- the types so far, and what is left
abbrev pub invariant-types : goal.invariant-types
invariant-types l = (listed : List RecordType) × LeadToTypes l.text listed l.left × Lists listed l.octets l.next

abbrev pub decreases-types : goal.decreases-types
decreases-types l = length l.left
