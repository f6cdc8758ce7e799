use Rattle.std.proofs.Common.{◌+◌, ◌≡◌, ◌++◌, length, refl, ap, ◌∙◌, append_assoc, arith, rules}
use Rattle.dnw_base.specs.Names.{encoded_size, label_wire, wire}
use Rattle.dnw_message_writer.proofs.Spelling.{left_after, passed_after, points, size_after, spells}
use Rattle.dnw_message_writer.specs.Hints.{slot_of, slot_of_form}
use Rattle.dnw_message_writer.specs.CompressedNames.{pointer_octets}
use Rattle.dnw_message_writer.proofs.names.spell.Goals as goal

pub suffixes-preserved : goal.suffixes-preserved
suffixes-preserved c =
    let split = c.in-Some.ensures.steps in
    let name = wire c.args.labels in
    let passed = c.suffixes.front in
    let all = c.suffixes.rest in
    let ls = c.next.new.self in
    let l = c.in-Some.label.now in
    let at = length c.args.message.now + passed in
    let form_is : c.as_wire-form.result.now ≡ wire all = search rules in
    let slot_is : c.slot_of-slot.result ≡ slot_of all = c.slot_of-slot.ensures.slot ∙ ap slot_of_form form_is in
    let kept_is = rw slot_is at c.keep.ensures in
    let moved : at + (length l + 1) ≡ length c.args.message.now + (passed + (length l + 1)) = omega arith in
    let none = rw (slot_is, c.clone-suffix.ensures.same) at c.in_default-found.ensures.none in
    record {
      left = left_after name passed all ls l split c.suffixes.invariant.left;
      size = size_after passed (encoded_size c.args.labels) all ls l split c.suffixes.invariant.size;
      goes_on = λ octets after more.
          rw (passed_after name passed all ls l split c.suffixes.invariant.left, append_assoc)
          (c.suffixes.invariant.goes_on (label_wire l ++ octets) after
          (spells slot_of c.args.message.now c.args.gap at c.suffixes.hints all ls l octets (label_wire l ++ octets) after (at + (length l + 1)) split none refl refl (rw (moved, ← kept_is) more)));
    }

pub returns-in-Some-found-clause-spells : goal.returns-in-Some-found-clause-spells
returns-in-Some-found-clause-spells c =
    let split = c.in-Some.ensures.steps in
    let all = c.suffixes.rest in
    let hint = c.in-Some-found.hint in
    let form_is : c.as_wire-form.result.now ≡ wire all = search rules in
    let slot_is : c.slot_of-slot.result ≡ slot_of all = c.slot_of-slot.ensures.slot ∙ ap slot_of_form form_is in
    let finds = rw (slot_is, c.clone-suffix.ensures.same) at c.in-Some-found.ensures.some in
    c.suffixes.invariant.goes_on (pointer_octets hint) c.suffixes.hints
    (points slot_of c.args.message.now c.args.gap (length c.args.message.now + c.suffixes.front) c.suffixes.hints all c.next.new.self c.in-Some.label.now
    (pointer_octets hint) hint split finds refl)
