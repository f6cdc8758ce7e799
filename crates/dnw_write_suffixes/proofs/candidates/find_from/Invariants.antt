use Rattle.dnw_write_suffixes.specs.Inside.TagTable.{NoneBefore}
use Rattle.dnw_write_suffixes.proofs.candidates.find_from.Given as goal

-- none of those before is usable
abbrev pub invariant-search : goal.invariant-search
invariant-search l = NoneBefore l.message l.labels l.held l.index
