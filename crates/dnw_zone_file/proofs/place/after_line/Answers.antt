use Rattle.std.proofs.Common.{ℕ, List, length, ap, arith}
use Rattle.std.proofs.lemmas.List.{nil_from_length}
use Rattle.dnw_zone_file.proofs.PlaceLines.{ends, four_more, next, none}
use Rattle.dnw_zone_file.proofs.place.after_line.Goals as goal

pub fours-preserved : goal.fours-preserved
fours-preserved c =
    let more = four_more c.args.text.now c.fours.left.now c.in-len4-up.len_at_least c.fours.invariant.within c.if-a-eq10.false c.if-b-eq10.false
    c.if-c-eq10.false c.if-d-eq10.false c.fours.invariant.same in
    record { within = more.0; same = more.1 }

pub returns-then-c-eq10-2-clause-is : goal.returns-then-c-eq10-2-clause-is
returns-then-c-eq10-2-clause-is c =
    ends c.args.text.now c.loop-c.left.now c.in-Some.rest.now c.in-Some.c.now c.loop-c.invariant.within c.loop-c.invariant.same c.in-Some.ensures.cases.0
    c.if-c-eq10-2.true

pub loop-c-preserved : goal.loop-c-preserved
loop-c-preserved c = record {
  within = omega (arith, c.loop-c.invariant.within, ap (λ (xs : List ℕ). length xs) c.in-Some.ensures.cases.0);
  same = next c.args.text.now c.loop-c.left.now c.in-Some.rest.now c.in-Some.c.now c.loop-c.invariant.within c.loop-c.invariant.same c.in-Some.ensures.cases.0 c.if-c-eq10-2.false;
}

pub returns-clause-is : goal.returns-clause-is
returns-clause-is c = none c.args.text.now c.loop-c.left.now c.loop-c.invariant.same (nil_from_length _ c.in_default-split_first.ensures.cases)
