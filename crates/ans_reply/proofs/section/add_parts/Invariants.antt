use Rattle.std.proofs.Common.{◌≡◌, ◌∷◌, drop}
use Rattle.std.specs.List.{flat_map}
use Rattle.ans_answer.specs.Seen.{all_labels, parts_seen}
use Rattle.ans_reply.specs.Sections.{each_once, part_records}
use Rattle.ans_reply.proofs.section.add_parts.Given as goal

abbrev pub invariant-parts : goal.invariant-parts
invariant-parts l =
    each_once l.records.items (flat_map part_records (parts_seen l.zone.records (l.asked.labels ∷ all_labels l.names) (drop l.part-index l.parts)))
    ≡ each_once l.fn.records.items (flat_map part_records (parts_seen l.zone.records (l.asked.labels ∷ all_labels l.names) l.parts))
