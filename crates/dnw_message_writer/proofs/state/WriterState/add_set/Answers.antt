use Rattle.dnw_message_writer.specs.Copying.{sets_of}
use Rattle.dnw_message_writer.proofs.Passing.{first_stops, not_so, set_begins, set_ends, set_kept, set_on, set_stops}
use Rattle.dnw_message_writer.proofs.state.WriterState.add_set.Goals as goal

pub returns-in-Err-clause-err : goal.returns-in-Err-clause-err
returns-in-Err-clause-err c =
    let s = c.args.section in
    let x = c.args.first.now in
    let xs = sets_of s c.args.records.now in
    first_stops s x xs c.args.self.now c.args.message.now c.in-Err.error c.in-Err.ensures.err

pub set-init : goal.set-init
set-init c =
    let s = c.args.section in
    let x = c.args.first.now in
    let xs = sets_of s c.args.records.now in
    set_begins s x xs c.args.self.now c.args.message.now c.record_of-begun.new.self c.record_of-begun.new.message c.record_of-begun.auto.message
    c.in_default.ensures.ok

pub returns-then-not-is_of_set-clause-ok : goal.returns-then-not-is_of_set-clause-ok
returns-then-not-is_of_set-clause-ok c =
    let s = c.args.section in
    let x = c.args.first.now in
    let xs = sets_of s c.args.records.now in
    let other = not_so c.is_of_set.result c.is_of_set.ensures.1 c.if-not-is_of_set.true in
    set_ends s x xs c.args.self.now c.args.message.now c.set.invariant c.in-Some.record (sets_of s c.next_of.new.records) c.in-Some.ensures.next other

pub returns-in-Err-added-clause-err : goal.returns-in-Err-added-clause-err
returns-in-Err-added-clause-err c =
    let s = c.args.section in
    let x = c.args.first.now in
    let xs = sets_of s c.args.records.now in
    let of = c.is_of_set.ensures.0 c.if-not-is_of_set.false in
    set_stops s x xs c.args.self.now c.args.message.now c.set.invariant c.in-Some.record (sets_of s c.next_of.new.records) c.in-Err-added.error
    c.in-Some.ensures.next of c.in-Err-added.ensures.err

pub returns-in-Err-added-clause-kept : goal.returns-in-Err-added-clause-kept
returns-in-Err-added-clause-kept c =
    let s = c.args.section in
    let x = c.args.first.now in
    let xs = sets_of s c.args.records.now in
    set_kept s x xs c.args.self.now c.args.message.now c.set.invariant c.record_of-added.new.message c.in-Err-added.ensures.same.1

pub set-preserved : goal.set-preserved
set-preserved c =
    let s = c.args.section in
    let x = c.args.first.now in
    let xs = sets_of s c.args.records.now in
    let of = c.is_of_set.ensures.0 c.if-not-is_of_set.false in
    set_on s x xs c.args.self.now c.args.message.now c.set.invariant c.in-Some.record (sets_of s c.next_of.new.records) c.record_of-added.new.self
    c.record_of-added.new.message c.in-Some.ensures.next c.record_of-added.auto.message of c.in_default-added.ensures.ok
