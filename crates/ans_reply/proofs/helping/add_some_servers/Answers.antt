use Rattle.std.proofs.Common.{refl}
use Rattle.ans_reply.specs.Sections.{servers_of}
use Rattle.ans_reply.proofs.helping.add_some_servers.Goals as goal

pub returns-in_default : goal.returns-in_default
unfolding servers_of
returns-in_default c = rw c.in_default.is refl
