-- Sort keys: octets whose plain order, a prefix first, is the canonical order of names (RFC 4034, section 6.1).
use Rattle.std.specs.Prelude.{ℕ, zero, suc, List, [], ◌∷◌, ◌++◌}
use Rattle.std.specs.List.{flat_map}
use Rattle.dnw_name_order.specs.Order.{canonical}

-- The most octets of a key. A name of 255 octets has four labels or more. Without the closing zero and four length octets,
-- 250 octets are left. Each may become two, and an octet is added after each of the four labels. More labels take more
-- length octets, so their key is shorter.
abbrev pub max_sort_key : ℕ
max_sort_key = 504

-- Octets 0 and 1 become two, so that an octet 0 stands only after a label.
abbrev pub escape_octet : ℕ → List ℕ
escape_octet zero = 1 ∷ 1 ∷ []
escape_octet (suc zero) = 1 ∷ 2 ∷ []
escape_octet n = n ∷ []

-- the octets of a label, and an octet 0 after them
abbrev pub label_key : List ℕ → List ℕ
label_key l = flat_map escape_octet l ++ 0 ∷ []

-- the labels from the last one, in lower case
abbrev pub sort_key : List (List ℕ) → List ℕ
sort_key ls = flat_map label_key (canonical ls)
