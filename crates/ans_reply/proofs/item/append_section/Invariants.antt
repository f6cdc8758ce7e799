use Rattle.std.proofs.Common.{◌≡◌, ◌++◌, take}
use Rattle.ans_reply.specs.Lists.{section_items}
use Rattle.ans_reply.proofs.item.append_section.Given as goal

abbrev pub invariant-records : goal.invariant-records
invariant-records l = l.list.items ≡ l.fn.list.items ++ section_items l.section (take l.record-index l.records)
