-- The numbers of rows, as they come and in another order.
use Rattle.std.proofs.Common.{◌≡◌, ◌∙◌, ap, sym, arith, ℕ, zero, suc, ◌+◌, ◌<◌, ◌≤◌, List, [], ◌∷◌, ◌++◌, length, slice_index_or}
use Rattle.std.specs.Prelude.{take}
use Rattle.std.specs.List.{range_with_len}
use Rattle.std.specs.List.Sorted.{IsPermutation}
use Rattle.std.proofs.Math.Seq.{take-suc}
use Rattle.std.proofs.lemmas.List.{map_push, take-map, take_all, length-map}
use Rattle.std.proofs.lemmas.List.Sorted.{IsPermutation-map}
use Rattle.dnw_commands.specs.declared.zones.sorting.Row.{Row}
use Rattle.dnw_commands.specs.Inside.Rows.{numbers}

-- a further number ends the list
range_more : (a n j : ℕ) → a + n ≡ j → range_with_len a (suc n) ≡ range_with_len a n ++ j ∷ []
range_more a zero j e = let same : a ≡ j = omega arith in ap (λ k. k ∷ []) same
range_more a (suc n) j e = ap (λ l. a ∷ l) (range_more (a + 1) n j (omega arith))

-- a further row has the next number
pub row_more : (rows : List Row) (row : Row) (n : ℕ) → numbers rows ≡ range_with_len 0 n → row.number ≡ n → numbers (rows ++ row ∷ []) ≡ range_with_len 0 (n + 1)
row_more rows row n all own =
    let next : suc n ≡ n + 1 = omega arith in
    map_push (λ r. r.number) rows row ∙ ap (λ l. l ++ row.number ∷ []) all
    ∙ ap (λ k. range_with_len 0 n ++ k ∷ []) own ∙ sym (range_more 0 n n (omega arith)) ∙ ap (range_with_len 0) next

-- the number of one row more is taken
pub taken_more : (rows : List Row) (i : ℕ) (d : Row) → i < length rows → take (i + 1) (numbers rows) ≡ take i (numbers rows) ++ (slice_index_or rows i d).number ∷ []
taken_more rows i d within =
    let next : i + 1 ≡ suc i = omega arith in
    ap (λ k. take k (numbers rows)) next ∙ take-map (λ r. r.number) (suc i) rows
    ∙ ap numbers (take-suc rows i d within) ∙ map_push (λ r. r.number) (take i rows) (slice_index_or rows i d)
    ∙ ap (λ l. l ++ (slice_index_or rows i d).number ∷ []) (sym (take-map (λ r. r.number) i rows))

-- rows in another order have the same numbers
pub numbers_moved : (old new : List Row) (order : List ℕ) (n i : ℕ) → numbers old ≡ range_with_len 0 n → IsPermutation old new → order ≡ take i (numbers new) → length new ≤ i → IsPermutation (range_with_len 0 n) order
numbers_moved old new order n i all moved taken whole =
    let long : length (numbers new) ≤ i = omega (arith, whole, length-map new (λ (r : Row). r.number)) in
    let same : order ≡ numbers new = taken ∙ take_all i (numbers new) long in
    rw (sym all, same) (IsPermutation-map (λ r. r.number) old new moved)
