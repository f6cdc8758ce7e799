-- One more suffix is added, and one fewer is left.
use Rattle.std.proofs.Common.{◌≡◌, ◌-◌, ◌+◌, ◌∷◌, length, drop, sym, ap, ◌∙◌, append_assoc, arith}
use Rattle.std.proofs.lemmas.List.{length-drop}
use Rattle.std.proofs.lemmas.List.Elements.{All-push}
use Rattle.dnw_base.specs.Names.{labels_wire}
use Rattle.dnw_write_suffixes.specs.Inside.Store.{IsHeld}
use Rattle.dnw_write_suffixes.specs.declared.store.Entry.{Entry}
use Rattle.dnw_write_suffixes.proofs.CandidateLists.{length_labels_wire}
use Rattle.dnw_write_suffixes.proofs.Held.{held_push, rest_bytes, suffixes_next}
use Rattle.dnw_write_suffixes.proofs.store.push_entries.Goals as goal

pub suffixes-preserved : goal.suffixes-preserved
suffixes-preserved c =
    let inv = c.suffixes.invariant in
    let es = c.suffixes.entries.items in
    let l = c.in-Some.label.now in
    let rest = c.next.new.self in
    let bytes = c.args.bytes.now in
    let from = c.suffixes.from in
    let start = c.suffixes.start in
    let labels : c.suffixes.labels ≡ l ∷ rest = c.in-Some.ensures.steps in
    let at : drop from bytes ≡ labels_wire (l ∷ rest) = inv.bytes ∙ ap labels_wire labels in
    let size : length bytes - from ≡ 1 + length l + length (labels_wire rest) = sym (length-drop from bytes)
    ∙ (ap length at ∙ length_labels_wire l rest) in
    let reached = rw labels at inv.reached in
    let e : Entry = record { from = from; size = length bytes - from; start = start } in
    record {
      room = omega (arith, inv.room, c.push_reserved.ensures.len, c.push_reserved.ensures.capacity, c.suffixes-test.true);
      from = omega (arith, inv.from, size);
      bytes = rest_bytes bytes from l rest at;
      reached = omega (arith, reached, length_labels_wire l rest);
      kept = λ to past further. rw c.push_reserved.ensures.items
          (All-push (IsHeld (length bytes) to) es e (inv.kept to past (omega (arith, further)))
          (record { within = omega (arith, inv.from); before = omega (arith, further); reached = omega (arith, reached) }));
      items = rw (
        c.push_reserved.ensures.items,
        held_push bytes (labels_wire (l ∷ rest)) es from (length bytes - from) start at
            (omega (arith, size, length_labels_wire l rest)),
        append_assoc,
        ← suffixes_next c.suffixes.left start l rest c.suffixes-test.true,
      ) (rw labels at inv.items);
    }

pub returns-clause-held : goal.returns-clause-held
returns-clause-held c = c.suffixes.invariant.kept c.max.result (omega (arith, c.max.ensures)) (omega (arith, c.max.ensures))
