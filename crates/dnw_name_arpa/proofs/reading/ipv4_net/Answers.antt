use Rattle.std.proofs.Common.{refl}
use Rattle.dnw_name_arpa.proofs.reading.ipv4_net.Goals as goal

pub returns-clause-addr : goal.returns-clause-addr
returns-clause-addr c =
    let made = rw c.unwrap.ensures at c.new-2.ensures.ok in
    rw (
      made.0,
      c.new.ensures,
      c.split_value-a.ensures.first 3,
      c.split_value-b.ensures.first 2,
      c.split_value-c.ensures.first 1,
      c.split_value-d.ensures.first 0,
    ) refl
