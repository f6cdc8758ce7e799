use Rattle.dnw_name_read.proofs.Found.{StandsAt_more}
use Rattle.dnw_name.proofs.name_ref.NameRef.labels.Goals as goal

pub new-requires : goal.new-requires
new-requires c = record { more = StandsAt_more c.self.invariant.stands; counted = c.self.invariant.stands.count_is }
