use Rattle.std.proofs.Common.{refl}
use Rattle.dnw_name_arpa.proofs.reading.ipv6_net.Goals as goal

pub returns-clause-addr : goal.returns-clause-addr
returns-clause-addr c =
    let made = rw c.unwrap.ensures at c.new.ensures.ok in
    rw (
      made.0,
      c.new-addr.ensures,
      c.split_segment-a.ensures.halves 28,
      c.split_segment-b.ensures.halves 24,
      c.split_segment-c.ensures.halves 20,
      c.split_segment-d.ensures.halves 16,
      c.split_segment-e.ensures.halves 12,
      c.split_segment-f.ensures.halves 8,
      c.split_segment-g.ensures.halves 4,
      c.split_segment-h.ensures.halves 0,
    ) refl
