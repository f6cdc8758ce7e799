-- The labels of a name that are kept, and those of the target.
use Rattle.std.proofs.Common.{◌≡◌, ◌∙◌, ◌++◌, ◌+◌, ◌-◌, ◌≤◌, ℕ, List, length, take, drop, ap, sym, arith}
use Rattle.std.proofs.lemmas.List.{length-take-le}
use Rattle.dns_names_wire.specs.Words.{AreLabels, encoded_size, max_name, wire}
use Rattle.ans_store.proofs.Reading.{wire_length}
use Rattle.ans_answer.specs.Targets.{To}
use Rattle.ans_answer.proofs.Targets.{both_labels, both_size, both_wire, is_whole, last_fits, short, too_long}
use Rattle.ans_answer.proofs.target.replaced.Goals as goal
use Rattle.ans_answer.proofs.target.replaced.Goals.{After-last_labels-last, After-put_at-2}

kept_is : (c : After-last_labels-last) → c.last_labels-last.result.labels ≡ drop (length c.args.name.now.labels - c.args.count) c.args.name.now.labels
kept_is c =
    let same : length c.args.name.now.labels - c.min.result ≡ length c.args.name.now.labels - c.args.count = omega (arith, c.min.ensures, c.count_of-all.ensures) in
    c.last_labels-last.ensures ∙ ap (λ n. drop n c.args.name.now.labels) same

pub overflow_sub-kept : goal.overflow_sub-kept
overflow_sub-kept c =
    omega (
      arith,
      last_fits c.args.name.now.labels c.last_labels-last.result.labels c.args.target.now.labels (length c.args.name.now.labels - c.args.count)
          (kept_is (goal.at.overflow_sub-kept c).After-last_labels-last),
      c.encoded_len.ensures.size,
      c.encoded_len-2.ensures.size,
    )

pub returns-then-end-gt-MAX_NAME : goal.returns-then-end-gt-MAX_NAME
returns-then-end-gt-MAX_NAME c =
    let k = length c.args.name.now.labels - c.args.count in
    let size = both_size c.args.name.now.labels c.last_labels-last.result.labels c.args.target.now.labels k (kept_is (goal.at.returns-then-end-gt-MAX_NAME c).After-last_labels-last) in
    too_long (take k c.args.name.now.labels ++ c.args.target.now.labels)
    (omega (arith, size, c.if-end-gt-MAX_NAME.true, c.encoded_len.ensures.size, c.encoded_len-2.ensures.size, c.encoded_len-3.ensures.size))

pub slice_bounds-put_at-end : goal.slice_bounds-put_at-end
slice_bounds-put_at-end c =
    let within : c.encoded_len.result - c.encoded_len-2.result ≤ length c.as_wire.result.now =
    omega (arith, ap length c.as_wire.ensures, wire_length c.args.name.now.labels, c.encoded_len.ensures.size) in
    sym (length-take-le (c.encoded_len.result - c.encoded_len-2.result) c.as_wire.result.now within)

pub put_at-requires-2 : goal.put_at-requires-2
put_at-requires-2 c = omega (arith, ap length c.as_wire-2.ensures, wire_length c.args.target.now.labels, c.encoded_len-3.ensures.size)

-- What is in the room is the wire form of the labels that are kept, and of the target.
room_is : (c : After-put_at-2) → c.last_labels-last.result.labels ≡ drop (length c.args.name.now.labels - c.args.count) c.args.name.now.labels
    → take (c.encoded_len.result - c.encoded_len-2.result + c.encoded_len-3.result) c.put_at-2.new.room
    ≡ wire (take (length c.args.name.now.labels - c.args.count) c.args.name.now.labels ++ c.args.target.now.labels)
room_is c is =
    let name = c.args.name.now.labels in
    let target = c.args.target.now.labels in
    let kept = c.encoded_len.result - c.encoded_len-2.result in
    let sizes : kept ≡ encoded_size name - encoded_size c.last_labels-last.result.labels = omega (arith, c.encoded_len.ensures.size, c.encoded_len-2.ensures.size) in
    let within : kept ≤ length c.as_wire.result.now = omega (arith, ap length c.as_wire.ensures, wire_length name, c.encoded_len.ensures.size) in
    let first_long : 0 + length (take kept c.as_wire.result.now) ≡ kept = omega (arith, length-take-le kept c.as_wire.result.now within) in
    let first : take kept c.put_at.new.room ≡ take (encoded_size name - encoded_size c.last_labels-last.result.labels) (wire name) =
    ap (λ n. take n c.put_at.new.room) (sym first_long) ∙ (c.put_at.ensures.front ∙ (ap (take kept) c.as_wire.ensures ∙ ap (λ n. take n (wire name)) sizes)) in
    let long : kept + length c.as_wire-2.result.now ≡ kept + c.encoded_len-3.result = omega (arith, ap length c.as_wire-2.ensures, wire_length target, c.encoded_len-3.ensures.size) in
    let second : take (kept + c.encoded_len-3.result) c.put_at-2.new.room ≡ take kept c.put_at.new.room ++ wire target =
    ap (λ n. take n c.put_at-2.new.room) (sym long) ∙ (c.put_at-2.ensures.front ∙ ap (λ (os : List ℕ). take kept c.put_at.new.room ++ os) c.as_wire-2.ensures) in
    both_wire name c.last_labels-last.result.labels target (length name - c.args.count) is
    (take kept c.put_at.new.room) (take (kept + c.encoded_len-3.result) c.put_at-2.new.room) first second

room_fits : (c : After-put_at-2) → encoded_size c.args.name.now.labels - encoded_size c.last_labels-last.result.labels + encoded_size c.args.target.now.labels ≤ max_name
room_fits c = omega (arith, c.if-end-gt-MAX_NAME.false, c.encoded_len.ensures.size, c.encoded_len-2.ensures.size, c.encoded_len-3.ensures.size)

are_names : (c : After-put_at-2) → c.last_labels-last.result.labels ≡ drop (length c.args.name.now.labels - c.args.count) c.args.name.now.labels
    → AreLabels (take (length c.args.name.now.labels - c.args.count) c.args.name.now.labels ++ c.args.target.now.labels)
are_names c is =
    both_labels c.args.name.now.labels c.last_labels-last.result.labels c.args.target.now.labels (length c.args.name.now.labels - c.args.count)
    is c.encoded_len.ensures.labels c.encoded_len-3.ensures.labels (room_fits c)

pub name_of-requires : goal.name_of-requires
name_of-requires c =
    let at = (goal.at.name_of-requires c).After-put_at-2 in
    let is = kept_is (goal.at.name_of-requires c).After-last_labels-last in
    (take (length c.args.name.now.labels - c.args.count) c.args.name.now.labels ++ c.args.target.now.labels, are_names at is, room_is at is)

pub returns : goal.returns
returns c =
    let at = (goal.at.returns c).After-put_at-2 in
    let is = kept_is (goal.at.returns c).After-last_labels-last in
    let both = take (length c.args.name.now.labels - c.args.count) c.args.name.now.labels ++ c.args.target.now.labels in
    let are = are_names at is in
    ap To (c.name_of.ensures ∙ is_whole both _ are (room_is at is)) ∙ short both are.fit
