use Rattle.std.proofs.Common.{◌-◌}
use Rattle.dnw_write_suffixes.specs.Inside.TagTable.{place, tag}
use Rattle.dnw_write_suffixes.proofs.Rings.{IsAt}
use Rattle.dnw_write_suffixes.proofs.candidates.Candidates.find_usable.Given as goal

abbrev pub invariant-search : goal.invariant-search
invariant-search l = IsAt tag l.message l.labels l.self-inside.held l.self-inside.tag_table.count l.tag l.next

abbrev pub decreases-search : goal.decreases-search
decreases-search l = l.self-inside.tag_table.count - place l.self-inside.tag_table.count l.next
