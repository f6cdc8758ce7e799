use Rattle.dnw_message_writer.proofs.Eights.{AreAlikeFrom}
use Rattle.dnw_message_writer.proofs.standing.are_at.Given as goal

abbrev pub invariant-eights : goal.invariant-eights
invariant-eights l = AreAlikeFrom l.message l.at l.octets l.left

abbrev pub decreases-eights : goal.decreases-eights
decreases-eights l = l.left

abbrev pub invariant-octets : goal.invariant-octets
invariant-octets l = AreAlikeFrom l.message l.at l.octets l.left

abbrev pub decreases-octets : goal.decreases-octets
decreases-octets l = l.left
