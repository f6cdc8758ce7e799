use Rattle.std.proofs.Common.{length, ap, arith}
use Rattle.dnw_base.specs.Names.{wire}
use Rattle.dnw_name_read.proofs.Found.{here}
use Rattle.dnw_name_read.proofs.Copying.{Copies-end, Copies-label}
use Rattle.dnw_name_read.proofs.copy.copy_runs.Goals as goal

pub returns-then-octet-eq0 : goal.returns-then-octet-eq0
returns-then-octet-eq0 c = Copies-end c.elements.invariant _ c.if-octet-eq0.true c.put_run.ensures

-- a label leaves fewer octets to be written
pub elements-smaller-then-octet-lt-POINTER_BITS : goal.elements-smaller-then-octet-lt-POINTER_BITS
elements-smaller-then-octet-lt-POINTER_BITS c =
    let now = c.elements.invariant in
    let next = Copies-label now (omega arith) c.if-octet-lt-POINTER_BITS.true in
    omega (arith, now.counts, next.counts)

pub bounds-message-position-else-octet-lt-POINTER_BITS : goal.bounds-message-position-else-octet-lt-POINTER_BITS
bounds-message-position-else-octet-lt-POINTER_BITS c = ((here c.elements.invariant.on).pointer c.if-octet-lt-POINTER_BITS.false).1

-- and a pointer as many
pub elements-smaller : goal.elements-smaller
elements-smaller c =
    let now = c.elements.invariant in
    let (labels, there, prior, on) = rw (← c.pointer_target-run.ensures) at ((here now.on).pointer c.if-octet-lt-POINTER_BITS.false) in
    omega (arith, now.counts, ap (λ ls. length (wire ls)) labels)
