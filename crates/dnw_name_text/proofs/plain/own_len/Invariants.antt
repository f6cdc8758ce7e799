use Rattle.std.proofs.Common.{◌≡◌, ◌-◌, ◌≤◌, true, take}
use Rattle.std.specs.List.{list_all}
use Rattle.dnw_name_text.specs.PlainNames.{is_own_octet}
use Rattle.dnw_name_text.proofs.plain.own_len.Given as goal

abbrev pub invariant-loop-len : goal.invariant-loop-len
invariant-loop-len l = record { few : l.len ≤ l.most; own : list_all is_own_octet (take l.len l.text) ≡ true }

abbrev pub decreases-loop-len : goal.decreases-loop-len
decreases-loop-len l = l.most - l.len

abbrev pub invariant-fours : goal.invariant-fours
invariant-fours l = record { few : l.len ≤ l.most; own : list_all is_own_octet (take l.len l.text) ≡ true }

abbrev pub decreases-fours : goal.decreases-fours
decreases-fours l = l.most - l.len
