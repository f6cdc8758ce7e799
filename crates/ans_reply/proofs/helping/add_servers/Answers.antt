use Rattle.std.proofs.Common.{refl}
use Rattle.ans_reply.specs.Sections.{servers_of}
use Rattle.ans_reply.proofs.helping.add_servers.Goals as goal

pub returns-in-Made : goal.returns-in-Made
unfolding servers_of
returns-in-Made c = rw c.in-Made.is refl

pub returns-in-Denying : goal.returns-in-Denying
unfolding servers_of
returns-in-Denying c = rw c.in-Denying.is refl
