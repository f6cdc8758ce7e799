use Rattle.std.proofs.Common.{◌&&◌, ◌+◌, ℕ, Bool, List, map, ap, sym, ◌∙◌}
use Rattle.std.proofs.lemmas.Bool.{and_left}
use Rattle.dns_names_wire.specs.Words.{is_in}
use Rattle.ans_denial.specs.Hashes.{covering_record, covers_whole}
use Rattle.ans_denial.specs.HashesSeen.{hash_by, nsec3_seen}
use Rattle.ans_denial.specs.Seen.{last_labels}
use Rattle.ans_denial.proofs.nsec3.is_next_missing.Goals as goal

pub returns-then-not-is_in : goal.returns-then-not-is_in
returns-then-not-is_in c =
    sym (and_left _ _ (ap (is_in c.args.apex.now.labels) (sym c.last_labels-closest.ensures) ∙ (sym c.is_in.ensures ∙ c.if-not-is_in.true)))

pub returns : goal.returns
returns c =
    let hash = hash_by c.args.hashing.now in
    let nsecs = map nsec3_seen c.args.nsecs.now in
    c.is_covered.ensures
    ∙ (ap (λ (n : List (List ℕ)). covers_whole (covering_record hash nsecs n)) c.last_labels-next.ensures
    ∙ sym (ap (λ (b : Bool). b && covers_whole (covering_record hash nsecs (last_labels c.args.name.now.labels (c.args.labels + 1))))
    (ap (is_in c.args.apex.now.labels) (sym c.last_labels-closest.ensures) ∙ (sym c.is_in.ensures ∙ c.if-not-is_in.false))))
