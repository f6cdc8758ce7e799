-- The records of a set are added one after another.
use Rattle.std.proofs.Common.{ap, arith, inl, length}
use Rattle.dnw_message_writer.specs.Lists.{TakesListed}
use Rattle.dnw_message_writer.proofs.ListItems.{record_onward}
use Rattle.dnw_message_writer.proofs.ListRuns.{first_fails, kept_past, run_begins, run_ends, run_fails, run_on}
use Rattle.dnw_message_writer.proofs.list.writing.add_records.Goals as goal

pub returns-in-Err-clause-err : goal.returns-in-Err-clause-err
returns-in-Err-clause-err c =
    let takes : TakesListed c.args.decoder.now c.args.octet c.in_ok-first.first c.read_record.new.decoder = (c.requires.begins, c.in_ok-first.ensures.ok) in
    inl (first_fails takes (c.requires.no_end c.in_ok-first.first c.read_record.new.decoder takes) c.in-Err.failure c.in-Err.ensures.err)

pub set-init : goal.set-init
set-init c =
    let takes : TakesListed c.args.decoder.now c.args.octet c.in_ok-first.first c.read_record.new.decoder = (c.requires.begins, c.in_ok-first.ensures.ok) in
    run_begins takes (c.requires.no_end c.in_ok-first.first c.read_record.new.decoder takes) c.add_listed-added.new.writer c.add_listed-added.new.message c.add_listed-added.auto.message c.in_default.ensures.ok

pub returns-in-Err-added-clause-err : goal.returns-in-Err-added-clause-err
returns-in-Err-added-clause-err c =
    let takes : TakesListed c.args.decoder.now c.args.octet c.in_ok-first.first c.read_record.new.decoder = (c.requires.begins, c.in_ok-first.ensures.ok) in
    let next = c.in-Some.ensures.some in
    inl (run_fails takes c.set.invariant c.in-Some.record c.next_of_set.new.decoder c.in-Err-added.failure next.0 next.1 c.in-Err-added.ensures.err)

pub returns-in-Err-added-clause-kept : goal.returns-in-Err-added-clause-kept
returns-in-Err-added-clause-kept c =
    kept_past c.args.octet c.args.section c.in_ok-first.first c.args.decoder.now c.args.writer.now c.args.message.now c.set.invariant
    c.add_listed-added-in-Some.new.message c.in-Err-added.ensures.same.1

pub set-smaller : goal.set-smaller
set-smaller c =
    let onward = record_onward c.in-Some.ensures.some.0.1 in
    omega (arith, onward.further, onward.inside, ap length onward.same)

pub set-preserved : goal.set-preserved
set-preserved c =
    let takes : TakesListed c.args.decoder.now c.args.octet c.in_ok-first.first c.read_record.new.decoder = (c.requires.begins, c.in_ok-first.ensures.ok) in
    let next = c.in-Some.ensures.some in
    run_on takes c.set.invariant c.in-Some.record c.next_of_set.new.decoder c.add_listed-added-in-Some.new.writer c.add_listed-added-in-Some.new.message
    c.add_listed-added-in-Some.auto.message next.0 next.1 c.in_default-added.ensures.ok

pub returns-clause-ok : goal.returns-clause-ok
returns-clause-ok c =
    let takes : TakesListed c.args.decoder.now c.args.octet c.in_ok-first.first c.read_record.new.decoder = (c.requires.begins, c.in_ok-first.ensures.ok) in
    let none = c.in_default-next_of_set.ensures.none in
    rw none.1 (run_ends takes c.set.invariant (c.requires.no_end c.in_ok-first.first c.read_record.new.decoder takes) none.0)
