-- The new name stands at the end.
use Rattle.std.proofs.Common.{rules, arith}
use Rattle.uses.proofs.TableNames.{view_of}
use Rattle.uses.proofs.TablePush.{seen, with_name}
use Rattle.uses.proofs.table.NameTable.push.Goals as goal

pub invariant_of-self-2 : goal.invariant_of-self-2
invariant_of-self-2 c =
    seen _ _ _ (with_name c.self.inside.octets.items c.self.inside.starts.items c.extend_from_slice.new.self.items c.push.new.self.items c.args.self.now c.args.name.now.labels
    c.self.invariant c.self.view_is c.encoded_len-size.ensures.labels (search rules) (search (rules, arith)) (search rules) (search rules))

pub returns-clause-added : goal.returns-clause-added
returns-clause-added c =
    view_of _ _ _ (with_name c.self.inside.octets.items c.self.inside.starts.items c.extend_from_slice.new.self.items c.push.new.self.items c.args.self.now c.args.name.now.labels
    c.self.invariant c.self.view_is c.encoded_len-size.ensures.labels (search rules) (search (rules, arith)) (search rules) (search rules))
