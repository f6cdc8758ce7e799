use Rattle.std.proofs.Common.{ℕ, List, map, ap, ◌∙◌}
use Rattle.std.specs.List.{find}
use Rattle.ans_denial.specs.Hashes.{covers_hash, covers_whole}
use Rattle.ans_denial.specs.HashesSeen.{nsec3_seen}
use Rattle.ans_denial.proofs.nsec3.is_covered.Goals as goal

pub returns : goal.returns
returns c =
    c.covers_whole.ensures
    ∙ ap covers_whole
    (c.covering_record.ensures ∙ ap (λ (h : List ℕ). find (covers_hash h) (map nsec3_seen c.args.nsecs.now)) c.hash_of-hash.ensures)
