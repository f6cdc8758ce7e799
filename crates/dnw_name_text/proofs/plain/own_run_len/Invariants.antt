use Rattle.std.proofs.Common.{◌≡◌, ◌-◌, ◌<◌, length, true, take}
use Rattle.std.specs.List.{list_all}
use Rattle.dnw_name_text.specs.PlainNames.{is_own_octet}
use Rattle.dnw_name_text.proofs.plain.own_run_len.Given as goal

abbrev pub invariant-fours : goal.invariant-fours
invariant-fours l = record { few : l.len < length l.text; own : list_all is_own_octet (take l.len l.text) ≡ true }

abbrev pub decreases-fours : goal.decreases-fours
decreases-fours l = length l.text - l.len
