use Rattle.std.proofs.Common.{arith}
use Rattle.dnw_zone_data.proofs.Given.{with_none}
use Rattle.dnw_zone_data.proofs.parsing.parse_given.Goals as goal

pub returns-then-not-branch : goal.returns-then-not-branch
returns-then-not-branch c = let none = rw c.if-not-branch.true at c.in_ok-parse_joined.ensures in λ value are. none value (are.0, are.1.0, are.2)

pub returns-then-len-start : goal.returns-then-len-start
returns-then-len-start c =
    with_none c.args.form c.args.shown _ c.args.out.now.items c.parse_joined.new.out.items c.may_be_left_out.result (rw c.if-not-branch.false at c.in_ok-parse_joined.ensures) (omega arith) c.may_be_left_out.ensures
