use Rattle.std.proofs.Common.{arith}
use Rattle.dnw_write_suffixes.proofs.CandidateLists.{none_usable}
use Rattle.dnw_write_suffixes.proofs.candidates.find_from.Goals as goal

pub returns-clause-finds : goal.returns-clause-finds
returns-clause-finds c =
    none_usable c.search.index (omega (arith, c.search-test.false, c.len-index-end.ensures)) c.search.invariant
