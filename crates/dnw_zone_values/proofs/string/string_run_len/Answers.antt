use Rattle.std.proofs.Common.{sym, ◌∙◌}
use Rattle.dnw_zone_values.proofs.StringText.{run_first}
use Rattle.dnw_zone_values.proofs.string.string_run_len.Goals as goal

pub returns : goal.returns
returns c =
    let first = run_first c.args.text.now c.memchr2.result c.memchr2.ensures in
    record { is = c.unwrap_or.ensures ∙ sym first.0; within = rw c.unwrap_or.ensures first.1 }
