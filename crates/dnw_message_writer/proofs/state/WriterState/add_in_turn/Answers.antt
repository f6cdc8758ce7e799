use Rattle.std.proofs.Common.{◌≡◌, ◌+◌, length, drop}
use Rattle.dnw_message_writer.proofs.Going.{left_from}
use Rattle.dnw_message_writer.proofs.Turning.{kept_past, turned_on, turned_past}
use Rattle.dnw_message_writer.proofs.state.WriterState.add_in_turn.Goals as goal

pub returns-in-Err-clause-err : goal.returns-in-Err-clause-err
returns-in-Err-clause-err c =
    let i = c.loop-data.data-index in
    let set = c.args.set.now in
    let split = left_from set i c.data-item.result c.loop-data-test.true c.data-item.is in
    let fails = rw c.clone.ensures.same at c.in-Err.ensures.err in
    turned_past c.args.section _ _ c.args.self.now c.args.message.now set c.loop-data.invariant c.data-item.result (drop (i + 1) set) _ split fails

pub returns-in-Err-clause-kept : goal.returns-in-Err-clause-kept
returns-in-Err-clause-kept c =
    kept_past c.args.section _ _ c.args.self.now c.args.message.now c.args.set.now c.loop-data.invariant c.record-added.new.message c.in-Err.ensures.same.1

pub loop-data-preserved : goal.loop-data-preserved
loop-data-preserved c =
    let i = c.loop-data.data-index in
    let set = c.args.set.now in
    let split = left_from set i c.data-item.result c.loop-data-test.true c.data-item.is in
    let size : length c.record-added.new.message ≡ length c.loop-data.message = c.record-added.auto.message in
    let added = rw c.clone.ensures.same at c.in_default.ensures.ok in
    turned_on c.args.section _ _ c.args.self.now c.args.message.now set c.loop-data.invariant c.data-item.result (drop (i + 1) set) c.record-added.new.self
    c.record-added.new.message split size added
