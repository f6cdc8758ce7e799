use Rattle.dns_names_wire.specs.Words.{value}
use Rattle.uses.proofs.Replies.{name_bounded, name_keeps}
use Rattle.uses.proofs.reply.write_name.Goals as goal

pub returns-clause-header : goal.returns-clause-header
returns-clause-header c = name_bounded c.names_stay_bounded.ensures.bounded c.args.name.now (value c.args.encoder.now) c.emit.result
    (value c.emit.new.encoder) c.requires c.emit.ensures.emits

pub returns-clause-keeps : goal.returns-clause-keeps
returns-clause-keeps c = name_keeps c.args.name.now (value c.args.encoder.now) c.emit.result (value c.emit.new.encoder) c.requires c.emit.ensures.emits
