use Rattle.dnw_zone_data.proofs.parsing.parse_by.Goals as goal

pub returns-else-branch-clause-reads : goal.returns-else-branch-clause-reads
returns-else-branch-clause-reads c =
    let none = rw c.if-branch.false at c.in_ok-parse_all-in-All.ensures in rw c.in-All.is (λ value rest is. none value is.0)

pub returns-in-Three-clause-reads : goal.returns-in-Three-clause-reads
returns-in-Three-clause-reads c = rw c.in-Three.is c.parse_three.ensures.reads

pub returns-in-One-clause-reads : goal.returns-in-One-clause-reads
returns-in-One-clause-reads c = rw c.in-One.is c.parse_one.ensures.reads
