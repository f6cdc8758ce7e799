use Rattle.std.proofs.Common.{sym, ap, ◌∙◌, List, ℕ, ◌++◌, length, refl, arith}
use Rattle.std.specs.List.{flat_map}
use Rattle.std.proofs.lemmas.List.{append-nil}
use Rattle.dnw_name_text.proofs.Joining.{dotted, joined_cons}
use Rattle.dnw_name_text.proofs.AsciiSizes.{text_room, text_room_cons, room_short}
use Rattle.dnw_name_text.proofs.printing.push_labels.Goals as goal

pub loop-label-init : goal.loop-label-init
loop-label-init c = record {
  text = refl;
  room = omega (
    arith,
    ap length c.requires.empty,
    ap text_room c.in-Some.ensures.steps,
    text_room_cons c.in-Some.first.now c.next.new.self,
    room_short c.args.labels c.requires.labels c.requires.fit,
    c.push_label.ensures.room,
  );
}

pub returns-clause-text : goal.returns-clause-text
returns-clause-text c =
    let all = rw c.in_default-next.ensures.steps.0 at c.loop-label.invariant.text in
    let first = rw c.requires.empty at c.push_label.ensures.text in
    rw c.in-Some.ensures.steps
    (sym (append-nil c.loop-label.out.bytes) ∙ all ∙ ap (λ (front : List ℕ). front ++ flat_map dotted c.next.new.self) first ∙ sym (joined_cons c.in-Some.first.now c.next.new.self))
