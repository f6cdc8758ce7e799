-- What a run comes to is what is promised of it.
use Rattle.dnw_write_script.proofs.Running.{ran}
use Rattle.dnw_write_script.proofs.script.running.run_limited.Goals as goal

pub returns : goal.returns
returns c =
    let e = c.run_all.ensures in
    ran c.args.buf.now.items c.args.candidates c.args.names c.args.steps.now c.run_all.result c.run_all.new.buf.items e.runs e.err e.same
