use Rattle.std.proofs.Common.{◌≡◌, ◌-◌, length}
use Rattle.dnw_write_suffixes.specs.Inside.Links.{AreChained}
use Rattle.dnw_write_suffixes.proofs.links.Links.add_all.Given as goal

abbrev pub invariant-links : goal.invariant-links
invariant-links l = record {
  size : length l.self.next.items ≡ length l.fn.self.next.items;
  chained : AreChained l.self.last.items l.self.next.items l.self.count l.candidates;
}

abbrev pub decreases-links : goal.decreases-links
decreases-links l = length l.self.next.items - l.self.count
