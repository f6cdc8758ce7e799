-- Octet by octet.
use Rattle.std.proofs.Common.{◌≡◌, ◌+◌, true, take, arith}
use Rattle.std.specs.List.{list_all}
use Rattle.dnw_name_text.specs.PlainNames.{is_own_octet}
use Rattle.dnw_name_text.proofs.PlainRuns.{own_more}
use Rattle.dnw_name_text.proofs.plain.own_len.Goals as goal

pub returns-then-not-is_own-4-clause-own : goal.returns-then-not-is_own-4-clause-own
returns-then-not-is_own-4-clause-own c =
    let two : list_all is_own_octet (take (c.fours.len + 2) c.args.text.now) ≡ true = grind (arith, own_more) in
    grind (arith, own_more)

pub fours-preserved : goal.fours-preserved
fours-preserved c =
    let two : list_all is_own_octet (take (c.fours.len + 2) c.args.text.now) ≡ true = grind (arith, own_more) in
    record { few = omega arith; own = grind (arith, own_more) }
