-- The items were written as the iterator yielded them.
use Rattle.std.proofs.Common.{◌≡◌, ◌-◌, ◌+◌, length, sym, subst, arith}
use Rattle.std.specs.Slice.Iter.{iter_rest}
use Rattle.dnw_write.specs.EncoderValue.{value}
use Rattle.dnw_write_script.specs.declared.script.Reply.TheVariants.{Items}
use Rattle.dnw_write_script.specs.Runs.{RunsItems}
use Rattle.std.proofs.Common.{ℕ, Some, None}
use Rattle.dnw_write_script.proofs.Lists.{all_written, some_written, written_before}
use Rattle.dnw_write_script.proofs.script.running.write_items.Goals as goal
use Rattle.dnw_write_script.proofs.script.running.write_items.Goals.{After-len-in-Err}

before : (c : After-len-in-Err) → length c.args.items.now ≡ length c.in-Err.ensures.items.0 + 1 + length (iter_rest c.emit_iter.new.iter)
before c =
    written_before (value c.args.encoder.now) (value c.emit_iter.new.self) c.args.items.now c.iter-rest.result c.emit_iter.new.iter c.in-Err.error
    c.iter-rest.ensures.rest c.in-Err.ensures.items

pub overflow_sub-result : goal.overflow_sub-result
overflow_sub-result c = omega (arith, before c, c.len-in-Err.ensures.value)

pub overflow_sub-result-in-Err : goal.overflow_sub-result-in-Err
overflow_sub-result-in-Err c = omega (arith, before c, c.len-in-Err.ensures.value)

pub returns-in-Ok-clause-runs : goal.returns-in-Ok-clause-runs
returns-in-Ok-clause-runs c =
    let w = value c.emit_iter.new.self in
    subst (λ (n : ℕ). RunsItems (value c.args.encoder.now) c.args.items.now (Items c.in-Ok.count None n) w) (sym c.len.ensures)
    (all_written (value c.args.encoder.now) w c.args.items.now c.iter-rest.result c.emit_iter.new.iter c.in-Ok.count c.iter-rest.ensures.rest c.in-Ok.ensures.items)

pub returns-in-Err-clause-runs : goal.returns-in-Err-clause-runs
returns-in-Err-clause-runs c =
    let w = value c.emit_iter.new.self in
    let v = value c.args.encoder.now in
    let all = written_before v w c.args.items.now c.iter-rest.result c.emit_iter.new.iter c.in-Err.error c.iter-rest.ensures.rest c.in-Err.ensures.items in
    let count : length c.args.items.now - c.len-in-Err.result - 1 ≡ length c.in-Err.ensures.items.0 = omega (arith, all, c.len-in-Err.ensures.value) in
    subst (λ (n : ℕ). RunsItems v c.args.items.now (Items (length c.args.items.now - c.len-in-Err.result - 1) (Some c.in-Err.error) n) w) (sym c.len-in-Err-2.ensures)
    (some_written v w c.args.items.now c.iter-rest.result c.emit_iter.new.iter c.in-Err.error _ c.iter-rest.ensures.rest c.in-Err.ensures.items count)
