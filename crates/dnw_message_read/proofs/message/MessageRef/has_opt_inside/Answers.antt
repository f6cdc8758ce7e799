use Rattle.dnw_message_read.proofs.message.MessageRef.has_opt_inside.Goals as goal

pub returns : goal.returns
returns c = rw (← c.self.view_is) c.self.invariant.inside
