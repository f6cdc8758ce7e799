-- Which slot of the table of hints is that of a suffix of a name: by a hash of its wire form.
--
-- No promise on names rests on the hash: it decides only what is compressed, and never what is read.
use Rattle.std.specs.Prelude.{ℕ, ◌+◌, ◌-◌, ◌*◌, ◌/◌, ◌%◌, ◌^◌, zero, suc, nat_lt, if◌then◌else◌, List, [], ◌∷◌, length, slice_range}
use Rattle.std.specs.Int.{w64, from_be_bytes}
use Rattle.dnw_base.specs.Names.{wire}

-- the hash of a short form, with one more octet before the others
abbrev pub mixed : ℕ → ℕ → ℕ
mixed hash octet = (hash * 2654435761 % 2 ^ 32 + octet) % 2 ^ 32

abbrev pub hash_of : List ℕ → ℕ
hash_of [] = 0
hash_of (c ∷ cs) = mixed (hash_of cs) c

-- the number that eight octets are
abbrev pub eight_at : List ℕ → ℕ → ℕ
eight_at form p = from_be_bytes w64 (slice_range form p (p + 8))

-- the hash of a longer form, with eight more octets
abbrev pub mixed_eight : ℕ → ℕ → ℕ
mixed_eight hash eight = (hash + eight) % 2 ^ 64 * 11400714819323198485 % 2 ^ 64

-- with so many times eight more octets, from p on
abbrev pub eights_from : ℕ → ℕ → List ℕ → ℕ → ℕ
eights_from zero p form hash = hash
eights_from (suc count) p form hash = eights_from count (p + 8) form (mixed_eight hash (eight_at form p))

-- how many slots there are
abbrev pub slots : ℕ
slots = 256

-- the slot of a form
abbrev pub slot_of_form : List ℕ → ℕ
slot_of_form form =
    if nat_lt (length form) 8 then hash_of form / 2 ^ 24
    else mixed_eight (eights_from (length form / 8) 0 form (length form)) (eight_at form (length form - 8)) / 2 ^ 56

-- the slot of a suffix
abbrev pub slot_of : List (List ℕ) → ℕ
slot_of ls = slot_of_form (wire ls)
