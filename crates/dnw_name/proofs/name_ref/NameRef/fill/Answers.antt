use Rattle.std.proofs.Common.{ap, arith}
use Rattle.dnw_base.specs.Names.{encoded_size}
use Rattle.dnw_name.proofs.name_ref.NameRef.fill.Goals as goal

pub copy_name-requires-clause-fits : goal.copy_name-requires-clause-fits
copy_name-requires-clause-fits c = omega (arith, c.requires, c.self.invariant.stands.size_is, ap encoded_size c.self.view_is)
