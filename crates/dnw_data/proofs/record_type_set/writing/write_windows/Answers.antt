use Rattle.std.proofs.lemmas.List.{nil_from_length}
use Rattle.dnw_data.proofs.Writing.{written_next, written_all}
use Rattle.dnw_data.proofs.record_type_set.writing.write_windows.Goals as goal

pub loop-code-preserved-in_ok-push_window : goal.loop-code-preserved-in_ok-push_window
loop-code-preserved-in_ok-push_window c =
    written_next c.args.codes.now c.loop-code.bytes.items c.push_window.new.bytes.items c.loop-code.rest.now c.in_ok-rest.rest.now c.take_octets.new.octets.items
    c.in-Some.field-0-1.now c.in-Some.code.now c.loop-code.invariant c.in-Some.ensures.cases.0
    c.in_ok-rest.ensures.codes c.in_ok-rest.ensures.above c.in_ok-rest.ensures.len (rw c.as_slice.ensures at c.in_ok-push_window.ensures)

pub loop-code-preserved : goal.loop-code-preserved
loop-code-preserved c =
    written_next c.args.codes.now c.loop-code.bytes.items c.push_window.new.bytes.items c.loop-code.rest.now c.in_ok-rest.rest.now c.take_octets.new.octets.items
    c.in-Some.field-0-1.now c.in-Some.code.now c.loop-code.invariant c.in-Some.ensures.cases.0
    c.in_ok-rest.ensures.codes c.in_ok-rest.ensures.above c.in_ok-rest.ensures.len (rw c.as_slice.ensures at c.in_ok-push_window.ensures)

pub returns-clause-ok : goal.returns-clause-ok
returns-clause-ok c = written_all c.args.codes.now c.loop-code.bytes.items c.loop-code.rest.now c.loop-code.invariant (nil_from_length c.loop-code.rest.now c.in_default.ensures.cases)
