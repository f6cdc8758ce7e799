-- Names that are written in lower case.
use borrow.Rule.Slice.PartMut.{post_of}
use Rattle.std.proofs.Common.{◌≡◌, ℕ, ◌+◌, ◌-◌, ◌<◌, true, nat_lt, if◌then◌else◌, List, [], ◌∷◌, ◌++◌, length, map, take, drop, sym, ap, ◌∙◌, append_assoc, arith}
use Rattle.std.proofs.lemmas.Bool.{lt-ltb}
use Rattle.std.proofs.lemmas.List.{drop-map, length-append, length-map, take_all}
use Rattle.std.proofs.Math.Seq.{drop-append_seam, take-append_seam}
use Rattle.std.specs.Char.{to_ascii_lowercase}
use Rattle.dnw_base.specs.Labels.{wildcard}
use Rattle.dnw_base.specs.Names.{lower, wire}
use Rattle.dnw_zone_values.proofs.HexText.{tail_written}
use Rattle.dnw_signed.specs.RecordSets.{signed_owner}

-- the end of a vector is put into lower case, as a slice of it
pub lowered_end : (before own low s items new : List ℕ) (l k : ℕ) → s ≡ before ++ own → l ≡ length before → k ≡ length s
    → new ≡ map to_ascii_lowercase (take (length s - l) (drop l s)) → map to_ascii_lowercase own ≡ low
    → take k ((take l s ++ (new ++ post_of l (length s - l) s)) ++ drop (length (take l s ++ (new ++ post_of l (length s - l) s))) items) ≡ before ++ low
lowered_end before own low s items new l k is at size made lowered =
    let front : take l s ≡ before = ap (λ (x : List ℕ). take l x) is ∙ ap (λ n. take n (before ++ own)) at ∙ take-append_seam before own in
    let rest : drop l s ≡ own = ap (λ (x : List ℕ). drop l x) is ∙ ap (λ n. drop n (before ++ own)) at ∙ drop-append_seam before own in
    let count : length s ≡ length before + length own = ap length is ∙ length-append before own in
    let part : take (length s - l) (drop l s) ≡ own =
    ap (λ (x : List ℕ). take (length s - l) x) rest ∙ take_all (length s - l) own (omega (arith, count, at)) in
    let new_is : new ≡ low = made ∙ ap (map to_ascii_lowercase) part ∙ lowered in
    let len : length new + l ≡ length s =
    omega (arith, ap length made, length-map (take (length s - l) (drop l s)) to_ascii_lowercase, ap length part, count, at) in
    tail_written s new items l k (omega (arith, count, at)) len size ∙ ap (λ (x : List ℕ). x ++ new) front ∙ ap (λ (x : List ℕ). before ++ x) new_is

-- a wildcard, and the last labels of an owner
pub cut_owner : (before extended new : List ℕ) (owner own last : List (List ℕ)) (n : ℕ) → n < length owner → own ≡ owner
    → last ≡ drop (length own - n) own → extended ≡ before ++ 1 ∷ 42 ∷ [] → new ≡ extended ++ wire (lower last)
    → new ≡ before ++ wire (signed_owner (lower owner) n)
cut_owner before extended new owner own last n less same cut extends appends =
    let size : length (lower owner) ≡ length owner = length-map owner (map to_ascii_lowercase) in
    let longer : nat_lt n (length (lower owner)) ≡ true = lt-ltb n (length (lower owner)) (omega (arith, less, size)) in
    let last_is : lower last ≡ drop (length (lower owner) - n) (lower owner) =
    ap lower (cut ∙ ap (λ (ls : List (List ℕ)). drop (length ls - n) ls) same) ∙ sym (drop-map (map to_ascii_lowercase) (length owner - n) owner)
    ∙ ap (λ k. drop (k - n) (lower owner)) (sym size) in
    let owner_is : wildcard ∷ lower last ≡ signed_owner (lower owner) n =
    ap (λ (ls : List (List ℕ)). wildcard ∷ ls) last_is
    ∙ sym (ap (λ b. if b then wildcard ∷ drop (length (lower owner) - n) (lower owner) else lower owner) longer) in
    appends ∙ ap (λ (x : List ℕ). x ++ wire (lower last)) extends ∙ append_assoc before (1 ∷ 42 ∷ []) (wire (lower last))
    ∙ ap (λ (ls : List (List ℕ)). before ++ wire ls) owner_is
