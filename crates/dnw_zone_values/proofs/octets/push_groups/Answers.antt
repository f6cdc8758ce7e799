use Rattle.std.proofs.Common.{◌≡◌, ℕ, ◌+◌, ◌-◌, ◌≤◌, List, ◌++◌, length, take, drop, ap, ◌∙◌, arith, length-drop}
use Rattle.std.proofs.lemmas.List.{length-take}
use Rattle.base64.proofs.Encoding.{resized_front, vec_written}
use Rattle.dnw_zone_values.proofs.octets.push_groups.Goals as goal

pub returns-clause-ok : goal.returns-clause-ok
returns-clause-ok c =
    let a = c.in_ok-resize.ensures.len in
    let sizes = c.as_mut_slice.ensures.len in
    let same = c.put_groups-len.auto.room in
    let end = c.in-Some.ensures in
    let l : ℕ = c.len-start.result in
    let s : List ℕ = c.as_mut_slice.result.now in
    let out : List ℕ = c.put_groups-len.new.room in
    let n : ℕ = c.put_groups-len.result.0 in
    let fits : l ≤ length s = omega arith in
    let len : length out + l ≡ length s = omega (arith, length-take (length s - l) (drop l s), length-drop l s) in
    let few : n ≤ length out = omega (arith, c.put_groups-len.ensures.within) in
    let front = resized_front c.args.octets.now.items s _ l c.in-Some.end (omega arith) (omega arith) (c.as_mut_slice.ensures.value ∙ c.in_ok-resize.ensures.items) in
    (take n out, c.truncate.ensures.items ∙ vec_written s out c.resize.new.self.items l n c.resize.new.self.len fits len (omega arith) few ∙ ap (λ (f : List ℕ). f ++ take n out) front, c.put_groups-len.ensures.begins)
