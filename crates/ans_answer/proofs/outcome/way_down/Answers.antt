-- The way down is one label longer with each turn.
use Rattle.std.proofs.Common.{◌≡◌, ◌-◌, ℕ, List, None, length, drop, ap, sym, subst, ◌∙◌, arith}
use Rattle.ans_store.specs.Zones.{name_exists}
use Rattle.ans_answer.specs.Outcomes.{sent_at}
use Rattle.ans_answer.proofs.Down.{IsDown, down_more, down_starts, ends_before, ends_there, if_not_false, if_not_true, sent_down}
use Rattle.ans_answer.proofs.outcome.way_down.Goals as goal

pub down-init : goal.down-init
down-init c =
    let zone = c.args.zone.now in
    let labels = c.args.name.now.labels in
    let count : length zone.apex ≡ c.count_of-count.result = sym (c.count_of-count.ensures ∙ ap length c.apex.ensures.apex) in
    subst (IsDown zone labels) count (down_starts zone labels c.requires)

pub down-preserved : goal.down-preserved
down-preserved c =
    let zone = c.args.zone.now in
    let labels = c.args.name.now.labels in
    let there : name_exists (drop (length labels - c.down.count) labels) zone.records ≡ _ =
    ap (λ (n : List (List ℕ)). name_exists n zone.records) (sym c.last_labels-above.ensures) ∙ (sym c.node-node.ensures.known ∙ if_not_false _ c.if-not-node.false) in
    let none : sent_at zone (drop (length labels - c.down.count) labels) ≡ None =
    ap (sent_at zone) (sym c.last_labels-above.ensures) ∙ sym c.in_default.ensures.sent in
    down_more zone labels c.down.count c.down.invariant (omega (arith, c.down-test.true, c.count_of-last.ensures)) there none

pub returns-then-not-node : goal.returns-then-not-node
returns-then-not-node c =
    let zone = c.args.zone.now in
    let labels = c.args.name.now.labels in
    let gone : name_exists (drop (length labels - c.down.count) labels) zone.records ≡ _ =
    ap (λ (n : List (List ℕ)). name_exists n zone.records) (sym c.last_labels-above.ensures) ∙ (sym c.node-node.ensures.known ∙ if_not_true _ c.if-not-node.true) in
    ends_before zone labels c.down.count c.requires c.apex.ensures.there c.down.invariant gone

pub returns-in-Some : goal.returns-in-Some
returns-in-Some c =
    let zone = c.args.zone.now in
    let labels = c.args.name.now.labels in
    let sent : sent_at zone (drop (length labels - c.down.count) labels) ≡ _ =
    ap (sent_at zone) (sym c.last_labels-above.ensures) ∙ sym c.in-Some.ensures.sent in
    (sent_down zone labels c.down.count _ c.down.invariant (omega (arith, c.down-test.true, c.count_of-last.ensures)) sent, c.in-Some.ensures.records)

pub returns : goal.returns
returns c =
    ends_there c.args.zone.now c.args.name.now.labels c.down.count c.requires c.apex.ensures.there c.down.invariant (omega (arith, c.down-test.false, c.count_of-last.ensures))
