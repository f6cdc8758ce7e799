-- The length of data before the data.
use Rattle.std.proofs.Common.{◌≡◌, ℕ, ◌-◌, List, [], ◌∷◌, ◌++◌, length, take, drop, sym, ap, ◌∙◌, arith, append_assoc, length-append}
use Rattle.std.specs.Int.{w16, to_be_bytes}
use Rattle.dnw_base.specs.Names.{wire}
use Rattle.std.proofs.lemmas.List.{drop_at, take_at}
use Rattle.dnw_zone_record.specs.declared.record_line.LineHead.{LineHead}
use Rattle.dnw_zone_record.specs.Inside.Fronts.{front_octets}
use Rattle.dnw_zone_record.specs.RecordLines.{line_octets}

pub line_whole : (labels : List (List ℕ)) (owner : List ℕ) (head : LineHead) (own front before new : List ℕ) (start : ℕ)
    → owner ≡ wire labels → front ≡ front_octets owner head ++ 0 ∷ 0 ∷ [] → start ≡ length front → before ≡ front ++ own
    → new ≡ take (start - 2) before ++ to_be_bytes w16 (length before - start) ++ drop start before → new ≡ line_octets labels head own
line_whole labels owner head own front before new start form is at all put =
    let f = front_octets owner head in
    let sizes = length-append f (0 ∷ 0 ∷ []) in
    let size : length before - start ≡ length own = omega (arith, ap length all, length-append front own) in
    let whole : before ≡ f ++ (0 ∷ 0 ∷ own) = all ∙ ap (λ (x : List ℕ). x ++ own) is ∙ append_assoc f (0 ∷ 0 ∷ []) own in
    let first : take (start - 2) before ≡ f = ap (take (start - 2)) whole ∙ take_at f (0 ∷ 0 ∷ own) (start - 2) (omega (arith, ap length is, sizes)) in
    let last : drop start before ≡ own = ap (drop start) all ∙ drop_at front own start (sym at) in
    put ∙ rw (size, first, last, form) (simp append_assoc)
