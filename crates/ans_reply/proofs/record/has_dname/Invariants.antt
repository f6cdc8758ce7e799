use Rattle.std.proofs.Common.{◌≡◌, false, take}
use Rattle.std.specs.List.{list_any}
use Rattle.ans_reply.specs.Sections.{is_dname_at}
use Rattle.ans_reply.proofs.record.has_dname.Given as goal

abbrev pub invariant-records : goal.invariant-records
invariant-records l = list_any (is_dname_at l.name.labels) (take l.record-index l.records) ≡ false
