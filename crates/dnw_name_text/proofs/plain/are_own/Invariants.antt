use Rattle.std.proofs.Common.{◌≡◌, ◌-◌, ◌≤◌, true, length, take}
use Rattle.std.specs.List.{list_all}
use Rattle.dnw_name_text.specs.PlainNames.{is_own_octet}
use Rattle.dnw_name_text.proofs.plain.are_own.Given as goal

abbrev pub invariant-fours : goal.invariant-fours
invariant-fours l = record { few : l.end ≤ length l.octets; own : list_all is_own_octet (take l.end l.octets) ≡ true }

abbrev pub decreases-fours : goal.decreases-fours
decreases-fours l = length l.octets - l.end
