use Rattle.dnw_record.proofs.Followed.{own_follows}
use Rattle.dnw_record.proofs.pointers.pass_own.Goals as goal

pub returns-clause-some : goal.returns-clause-some
returns-clause-some c = own_follows c.args.kind c.args.reader.now c.read.new.reader _ c.requires c.in-Ok.ensures.ok
