use Rattle.std.proofs.Common.{ℕ, List, ◌++◌, drop, refl, sym, ap, ◌∙◌, arith, inl}
use Rattle.std.proofs.lemmas.List.{take-append-drop}
use Rattle.base64.specs.Engines.{standard}
use Rattle.base64.proofs.EngineFacts.{decode_of_strict}
use Rattle.dnw_zone_values.proofs.ComeBack.{base64_none}
use Rattle.dnw_zone_values.proofs.octets.decode_last.Goals as goal

pub returns-in-Ok : goal.returns-in-Ok
returns-in-Ok c =
    let new = c.decode_vec.new.buffer.items in
    let n : ℕ = c.args.octets.now.len in
    let spells = decode_of_strict standard c.args.text.now (drop n new) (refl, refl) (λ i. omega (arith, c.type_inv.text i)) c.in-Ok.ensures.ok in
    (drop n new, (c.in-Ok.ensures.bytes, spells), sym (take-append-drop n new) ∙ ap (λ (front : List ℕ). front ++ drop n new) c.in-Ok.ensures.front)

pub returns-in-Err-DecodeError : goal.returns-in-Err-DecodeError
returns-in-Err-DecodeError c =
    let fails = rw c.in-Err-DecodeError.field-0-is at c.in-Err-DecodeError.ensures.err in
    (inl (refl, base64_none c.args.text.now c.in-Err-DecodeError.field-0-0 fails), c.in-Err-DecodeError.ensures.same)
