-- Each name above is looked up as the definition does.
use Rattle.std.proofs.Common.{ℕ, List, Option, map, ap, sym, ◌∙◌, arith}
use Rattle.std.specs.List.{find}
use Rattle.dns_names_wire.specs.Words.{is_in}
use Rattle.ans_denial.specs.Hashes.{Nsec3Value, has_hash, said_below}
use Rattle.ans_denial.specs.HashesSeen.{hash_by, nsec3_seen}
use Rattle.ans_denial.specs.Seen.{labels_above}
use Rattle.ans_denial.proofs.HashSteps.{climb_ends, climb_found, climb_more, climb_out}
use Rattle.ans_denial.proofs.nsec3.climb.Goals as goal

pub returns-then-not-is_in-clause-said : goal.returns-then-not-is_in-clause-said
returns-then-not-is_in-clause-said c =
    climb_out (hash_by c.args.hashing.now) (map nsec3_seen c.args.nsecs.now) c.args.apex.now.labels c.args.name.now.labels c.up.count c.up.next
    (omega arith) c.up.invariant
    (ap (is_in c.args.apex.now.labels) (sym c.last_labels-above.ensures) ∙ (sym c.is_in.ensures ∙ c.if-not-is_in.true))

pub returns-in-Some-clause-said : goal.returns-in-Some-clause-said
returns-in-Some-clause-said c =
    let hash = hash_by c.args.hashing.now in
    let nsecs = map nsec3_seen c.args.nsecs.now in
    let name = c.args.name.now.labels in
    let nsec = nsec3_seen c.in-Some.nsec.now in
    c.said_below.ensures.said name
    ∙ (ap (λ (o : Option Nsec3Value). said_below (labels_above name c.up.count) nsec o) c.covering_record.ensures
    ∙ climb_found hash nsecs c.args.apex.now.labels name c.up.count c.up.next nsec (omega arith) c.up.invariant
    (ap (is_in c.args.apex.now.labels) (sym c.last_labels-above.ensures) ∙ (sym c.is_in.ensures ∙ c.if-not-is_in.false))
    (c.in-Some.ensures ∙ ap (λ (h : List ℕ). find (has_hash h) nsecs) (c.hash_of-hash.ensures ∙ ap hash c.last_labels-above.ensures)))

pub up-preserved : goal.up-preserved
up-preserved c =
    let hash = hash_by c.args.hashing.now in
    let nsecs = map nsec3_seen c.args.nsecs.now in
    climb_more hash nsecs c.args.apex.now.labels c.args.name.now.labels c.up.count c.up.next c.hash_of-hash.result (omega arith) c.up.invariant
    (ap (is_in c.args.apex.now.labels) (sym c.last_labels-above.ensures) ∙ (sym c.is_in.ensures ∙ c.if-not-is_in.false))
    (c.in_default.ensures ∙ ap (λ (h : List ℕ). find (has_hash h) nsecs) (c.hash_of-hash.ensures ∙ ap hash c.last_labels-above.ensures))
    (c.hash_of-hash.ensures ∙ ap hash c.last_labels-above.ensures)

pub returns-clause-said : goal.returns-clause-said
returns-clause-said c =
    climb_ends (hash_by c.args.hashing.now) (map nsec3_seen c.args.nsecs.now) c.args.apex.now.labels c.args.name.now.labels c.up.count c.up.next
    (omega arith) c.up.invariant
