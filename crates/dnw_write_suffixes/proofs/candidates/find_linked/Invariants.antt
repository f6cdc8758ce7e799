use Rattle.std.proofs.Common.{◌-◌}
use Rattle.dnw_write_suffixes.specs.Inside.TagTable.{place}
use Rattle.dnw_write_suffixes.specs.Inside.Links.{wide_tag}
use Rattle.dnw_write_suffixes.proofs.Rings.{IsAt}
use Rattle.dnw_write_suffixes.proofs.candidates.find_linked.Given as goal

abbrev pub invariant-search : goal.invariant-search
invariant-search l = IsAt wide_tag l.message l.labels l.held l.links.count l.tag l.next

abbrev pub decreases-search : goal.decreases-search
decreases-search l = l.links.count - place l.links.count l.next
