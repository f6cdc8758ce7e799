use Rattle.std.proofs.Common.{Some, None, ◌-◌, arith}
use Rattle.dnw_record.specs.DataPointers.{next_field, no_field, too_few}
use Rattle.dnw_record.proofs.Followed.{all_passed}
use Rattle.dnw_record.proofs.pointers.pointers_left.Goals as goal

pub returns-in_default-pass_field : goal.returns-in_default-pass_field
returns-in_default-pass_field c =
    let go = rw c.in-Some.ensures.cases.0 at c.fields.invariant in
    go (Some c.fields.now) (no_field c.in-Some.kind.now c.in-Some.others.now c.fields.reader c.fields.now c.in_default-pass_field.ensures.none)

pub returns-then-followed-now : goal.returns-then-followed-now
returns-then-followed-now c =
    let go = rw c.in-Some.ensures.cases.0 at c.fields.invariant in
    let few = c.if-followed-now.true in
    go None
    (too_few c.in-Some.kind.now c.in-Some.others.now c.fields.reader c.pass_field.new.reader c.in-Some-pass_field.followed c.fields.now
    c.in-Some-pass_field.ensures.some (omega (arith, few)))

pub fields-preserved : goal.fields-preserved
fields-preserved c = λ end rest.
    let go = rw c.in-Some.ensures.cases.0 at c.fields.invariant in
    let enough = c.if-followed-now.false in
    let followed = c.in-Some-pass_field.followed in
    go end
    (next_field c.in-Some.kind.now c.in-Some.others.now c.fields.reader c.pass_field.new.reader followed c.fields.now (c.fields.now - followed) end
    c.in-Some-pass_field.ensures.some (omega (arith, enough)) rest)

pub returns : goal.returns
returns c = c.fields.invariant (Some c.fields.now) (all_passed c.fields.kinds.now c.fields.reader c.fields.now c.in_default.ensures.cases)
