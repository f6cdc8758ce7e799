use Rattle.std.proofs.Common.{rules}
use Rattle.dns_names_wire.specs.Words.{fields_of, is_internet_type}
use Rattle.uses.proofs.mail.mail_data.Goals as goal

pub returns-clause-err : goal.returns-clause-err
unfolding fields_of is_internet_type
returns-clause-err c = let made = c.from_fields.ensures.accepts (tt, (tt, tt)) in search rules
