use Rattle.std.proofs.Common.{◌+◌, ◌-◌, slice_range, arith}
use Rattle.std.proofs.lemmas.List.Edits.{length-between}
use Rattle.dnw_base.proofs.Wires.{length_wire}
use Rattle.dnw_name_read.specs.Inside.Found.{labels_at}
use Rattle.dnw_name_read.proofs.Copying.{two_runs}
use Rattle.dnw_name_read.proofs.copy.copy_name.Goals as goal

pub copy_runs-requires-clause-fits : goal.copy_runs-requires-clause-fits
copy_runs-requires-clause-fits c =
    let (count, lies) = c.requires.name in
    omega (arith, c.requires.fits, lies.stands.size_is, length_wire (labels_at c.args.message.now c.args.first))

pub returns : goal.returns
returns c =
    let (count, lies) = c.requires.name in
    let two = lies.pieces (omega arith) in
    let front = length-between c.args.message.now c.args.first (c.args.first + c.args.head) two.front in
    let back = length-between c.args.message.now c.args.tail (c.args.tail + (c.args.size - c.args.head)) two.back in
    rw (← two.form) (two_runs c.args.out.now c.put_run.new.out c.put_run-2.new.out
    (slice_range c.args.message.now c.args.first (c.args.first + c.args.head))
    (slice_range c.args.message.now c.args.tail (c.args.tail + (c.args.size - c.args.head)))
    c.args.head c.put_run.ensures (omega (arith, front)) c.put_run-2.ensures (omega (arith, front, back, two.part, c.requires.fits)))
