use Rattle.std.proofs.Common.{◌≡◌, ◌-◌, ◌≤◌, length, drop}
use Rattle.std.specs.List.{list_all}
use Rattle.dnw_name_form.specs.LabelText.{may_follow}
use Rattle.dnw_name_form.proofs.label.all_may_follow.Given as goal

-- the bytes that are left decide
abbrev pub invariant-loop-index : goal.invariant-loop-index
invariant-loop-index l = record {
  few : l.index ≤ length l.text;
  same : list_all may_follow (drop l.index l.text) ≡ list_all may_follow l.text;
}

abbrev pub decreases-loop-index : goal.decreases-loop-index
decreases-loop-index l = length l.text - l.index
