-- Places after octets of a line, and after its end.
use Rattle.std.proofs.Common.{◌≡◌, ◌≢◌, ℕ, ◌+◌, ◌-◌, ◌≤◌, List, [], ◌∷◌, length, take, drop, get_or, refl, ap, ◌∙◌, arith, length-drop, ◌++◌, true, false}
use Rattle.std.proofs.lemmas.Bool.{and_parts, eq-eqb, ne_eqb}
use Rattle.std.proofs.lemmas.List.{take_all}
use Rattle.std.specs.List.{list_all}
use Rattle.dnw_zone_file.specs.Places.{place_from}
use Rattle.dnw_zone_file.specs.Inside.PlaceLines.{BeginsWithLine, IsInLine, IsInLineUpTo, is_no_feed}

-- one octet more, which is no line feed
pub next : (text left rest : List ℕ) (c : ℕ) → length left ≤ length text → IsInLineUpTo left text → left ≡ c ∷ rest → c ≢ 10
    → IsInLineUpTo rest text
next text left rest c within so is other = λ line column len size.
    let before : (len - 1) + length left ≡ length text = omega (arith, size, ap length is, within) in
    let at : column + (len - 1) + 1 ≡ column + len = omega (arith, size, ap length is, within) in
    so line column (len - 1) before
    ∙ ap (place_from (record { line = line; column = column + (len - 1) })) is
    ∙ rw (ne_eqb c 10 other) (ap (λ (n : ℕ). place_from (record { line = line; column = n }) rest) at)

-- a line feed
pub ends : (text left rest : List ℕ) (c : ℕ) → length left ≤ length text → IsInLineUpTo left text → left ≡ c ∷ rest → c ≡ 10
    → BeginsWithLine text rest
ends text left rest c within so is feed = λ line column.
    let before : (length text - length left) + length left ≡ length text = omega (arith, within) in
    so line column (length text - length left) before
    ∙ ap (place_from (record { line = line; column = column + (length text - length left) })) is
    ∙ rw (eq-eqb c 10 feed) refl

-- nothing more
pub none : (text left : List ℕ) → IsInLineUpTo left text → left ≡ [] → IsInLine text
none text left so is = λ line column.
    so line column (length text) (omega (arith, ap length is)) ∙ ap (place_from (record { line = line; column = column + length text })) is

-- four octets more
fours : (text left : List ℕ) → 4 ≤ length left → length left ≤ length text → get_or left 0 0 ≢ 10 → get_or left 1 0 ≢ 10 → get_or left 2 0 ≢ 10
    → get_or left 3 0 ≢ 10 → IsInLineUpTo left text → IsInLineUpTo (drop 4 left) text
fours text (a ∷ b ∷ c ∷ d ∷ cs) size within is_a is_b is_c is_d so =
    next text (d ∷ cs) cs d (omega (arith, within))
    (next text (c ∷ d ∷ cs) (d ∷ cs) c (omega (arith, within))
    (next text (b ∷ c ∷ d ∷ cs) (c ∷ d ∷ cs) b (omega (arith, within))
    (next text (a ∷ b ∷ c ∷ d ∷ cs) (b ∷ c ∷ d ∷ cs) a within so refl is_a) refl is_b) refl is_c) refl is_d
fours text left size within is_a is_b is_c is_d so = absurd (omega (arith, size))

pub four_more : (text left : List ℕ) → 4 ≤ length left → length left ≤ length text → get_or left 0 0 ≢ 10 → get_or left 1 0 ≢ 10
    → get_or left 2 0 ≢ 10 → get_or left 3 0 ≢ 10 → IsInLineUpTo left text
    → let rest = take (length left - 4) (drop 4 left) in (length rest ≤ length text) × IsInLineUpTo rest text
four_more text left size within is_a is_b is_c is_d so =
    let rest : take (length left - 4) (drop 4 left) ≡ drop 4 left = take_all (length left - 4) (drop 4 left) (omega (arith, length-drop 4 left)) in
    rw rest (omega (arith, length-drop 4 left, within), fours text left size within is_a is_b is_c is_d so)

-- octets without a line feed, and one after them
pub one_line : (line column : ℕ) (front : List ℕ) → list_all is_no_feed front ≡ true
    → place_from (record { line = line; column = column }) (front ++ 10 ∷ []) ≡ record { line = line + 1; column = 0 }
one_line line column [] free = refl
one_line line column (c ∷ cs) free =
    let parts = and_parts (is_no_feed c) (list_all is_no_feed cs) free in
    let other : c ≢ 10 = λ e. (let wrong : false ≡ true = rw e at parts.0 in cc) in
    let step : place_from (record { line = line; column = column }) (c ∷ (cs ++ 10 ∷ []))
    ≡ place_from (record { line = line; column = column + 1 }) (cs ++ 10 ∷ []) =
    rw (ne_eqb c 10 other, place_from) refl in
    step ∙ one_line line (column + 1) cs parts.1
