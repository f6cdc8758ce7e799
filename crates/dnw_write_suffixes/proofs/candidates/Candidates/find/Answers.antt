use Rattle.std.proofs.Common.{◌<◌, suc, length, take, drop, arith}
use Rattle.dnw_write_suffixes.proofs.CandidateLists.{between}
use Rattle.dnw_write_suffixes.proofs.candidates.Candidates.find.Goals as goal

pub returns-then-is_same-clause-finds : goal.returns-then-is_same-clause-finds
returns-then-is_same-clause-finds c =
    let cs = c.self.inside.held in
    let below : c.search.index < length cs = omega (arith, c.search-test.true, c.len-index-end.ensures) in
    let split = between c.get-start.result.1.now cs c.search.index c.get-start.result.0 below c.get-start.ensures.item in
    rw (← c.self.view_is) (record {
      before = take c.search.index cs;
      after = drop (suc c.search.index) cs;
      split = rw (← c.is_same.ensures.0 c.if-is_same.true) split;
      others = c.search.invariant;
    })
