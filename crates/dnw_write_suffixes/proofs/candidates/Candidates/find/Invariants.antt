use Rattle.std.proofs.Common.{◌≢◌, take}
use Rattle.std.specs.List.{AllByRecursion}
use Rattle.dnw_write_suffixes.proofs.candidates.Candidates.find.Given as goal

-- none of those before has these labels
abbrev pub invariant-search : goal.invariant-search
invariant-search l = AllByRecursion (λ c. c.1 ≢ l.labels) (take l.index l.self-inside.held)
