use Rattle.std.proofs.Common.{refl, add-zero, arith}
use Rattle.dnw_name_read.specs.Reading.{too_long}
use Rattle.dnw_name_read.proofs.Pieces.{last_few}
use Rattle.dnw_name_read.proofs.Walking.{WalksOn-end}
use Rattle.dnw_name_read.proofs.walk.walk_elements.Goals as goal

pub returns-in-Err-clause-none : goal.returns-in-Err-clause-none
returns-in-Err-clause-none c =
    let stops = rw c.in-Err.is at c.next_element.ensures.err in
    rw (c.failed.ensures.none, c.failed.ensures.fault) (simp add-zero at (c.elements.invariant.stops _ 0 0 (stops _)))

pub returns-in-Ok-End-clause-some : goal.returns-in-Ok-End-clause-some
returns-in-Ok-End-clause-some c =
    let there = rw (c.in-Ok-End.is, c.in-Ok-End.field-0-is) at c.next_element.ensures.ok in
    let within = rw c.in-Ok-End.is at c.next_element.ensures.within in
    WalksOn-end c.elements.invariant within there _ refl refl c.own_end.ensures refl c.head_len.ensures

pub head_len-requires : goal.head_len-requires
head_len-requires c =
    let now = c.elements.invariant in
    omega (arith, now.counts, last_few now.written now.counts.order (omega (arith, c.in-Ok-End.ensures.there)))

pub returns-then-size-gt-MAX_NAME-clause-none : goal.returns-then-size-gt-MAX_NAME-clause-none
returns-then-size-gt-MAX_NAME-clause-none c =
    let there = rw (c.in-Ok-Label.is, c.in-Ok-Label.field-0-is) at c.next_element.ensures.ok in
    let within = rw c.in-Ok-Label.is at c.next_element.ensures.within in
    let stops = c.elements.invariant.stops _ 0 1 (too_long _ within there.octet there.some there.few there.there c.if-size-gt-MAX_NAME.true) in
    rw (c.failed-then-size-gt-MAX_NAME.ensures.none, c.failed-then-size-gt-MAX_NAME.ensures.fault) (rw add-zero at stops)
