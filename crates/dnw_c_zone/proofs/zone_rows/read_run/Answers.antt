use Rattle.std.proofs.Common.{ap, arith, length, length-drop}
use Rattle.dnw_c_zone.proofs.StepRows.{step_rows}
use Rattle.dnw_c_zone.proofs.ZoneRuns.{reading_none, reading_on, reading_stops}
use Rattle.dnw_c_zone.proofs.zone_rows.read_run.Goals as goal

pub entries-init : goal.entries-init
entries-init c = reading_none c.args.text.now c.args.more c.args.context.now c.args.rows.now c.args.octets.now

pub put_step-requires-clause-data : goal.put_step-requires-clause-data
put_step-requires-clause-data c = (step_rows _ _ _ _ _ c.take_entry-step.ensures.is).fits

pub returns-then-not-put_step : goal.returns-then-not-put_step
returns-then-not-put_step c =
    reading_stops c.entries.invariant c.take_entry-step.result c.take_entry-step.new.context c.put_step.new.rows c.put_step.new.octets
    c.put_step.new.read (rw c.entries-test.true at c.has_room.ensures) (rw c.left_of-left.ensures at c.take_entry-step.ensures.is)
    (rw c.if-not-put_step.true at c.put_step.ensures) (step_rows _ _ _ _ _ c.take_entry-step.ensures.is)

pub entries-preserved : goal.entries-preserved
entries-preserved c =
    reading_on c.entries.invariant c.take_entry-step.result.found c.take_entry-step.result.used c.take_entry-step.new.context c.put_step.new.rows
    c.put_step.new.octets c.put_step.new.read (rw c.entries-test.true at c.has_room.ensures) (rw c.left_of-left.ensures at c.take_entry-step.ensures.is)
    (omega (arith, c.take_entry-step.ensures.within, c.entries.invariant.within, ap length c.left_of-left.ensures, length-drop c.entries.read.used c.args.text.now))
    (rw c.if-not-put_step.false at c.put_step.ensures) c.put_step.auto.rows c.put_step.auto.octets
