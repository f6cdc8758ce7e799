use Rattle.std.proofs.Common.{◌≡◌, ℕ, ◌+◌, ◌-◌, ◌≤◌, List, ◌++◌, length, drop, ap, ◌∙◌, arith, length-drop}
use Rattle.std.proofs.lemmas.List.{length-take}
use Rattle.base64.proofs.Encoding.{resized_front}
use Rattle.dnw_zone_values.proofs.HexText.{tail_written}
use Rattle.dnw_zone_values.proofs.octets.append_digits.Goals as goal

pub returns : goal.returns
returns c =
    let a = c.in_ok-resize.ensures.len in
    let sizes = c.as_mut_slice.ensures.len in
    let same = c.put_digits.auto.room in
    let end = c.in-Some.ensures in
    let l : ℕ = c.len-start.result in
    let s : List ℕ = c.as_mut_slice.result.now in
    let out : List ℕ = c.put_digits.new.room in
    let fits : l ≤ length s = omega arith in
    let len : length out + l ≡ length s = omega (arith, length-take (length s - l) (drop l s), length-drop l s) in
    let front = resized_front c.args.octets.now.items s _ l c.in-Some.end (omega arith) (omega arith) (c.as_mut_slice.ensures.value ∙ c.in_ok-resize.ensures.items) in
    (out, c.put_digits.ensures.yes c.if-not-put_digits.false, tail_written s out c.resize.new.self.items l c.resize.new.self.len fits len (omega arith) ∙ ap (λ (f : List ℕ). f ++ out) front)
