-- How a name is written, with compression (RFC 1035, section 4.1.4), by hints that may be wrong.
--
-- For each suffix, from the longest on, the two hints of its slot are tried: if the suffix stands at such an offset of the message so
-- far, a pointer is written for it. Else its first label is written, and its offset becomes the later hint of the slot. The root is the
-- closing zero.
use Rattle.std.specs.Prelude.{◌≡◌, ℕ, ◌+◌, ◌/◌, ◌%◌, ◌<◌, nat_lt, if◌then◌else◌, ◌⊎◌, Option, Some, None, List, [], ◌∷◌, ◌++◌, length, take, drop, slice_index, slice_set}
use Rattle.dnw_base.specs.Limits.{pointer_bits, pointer_offsets}
use Rattle.dnw_base.specs.Names.{label_wire, wire}
use Rattle.dnw_message_writer.specs.declared.names.Spelling.{Spelling}
use Rattle.dnw_message_writer.specs.Hints.{slots}
use Rattle.dnw_message_writer.specs.Standing.{StandsSettled}

-- these octets at an offset of a buffer, and the others unchanged
abbrev pub put_at : List ℕ → ℕ → List ℕ → List ℕ
put_at message at octets = take at message ++ (octets ++ drop (at + length octets) message)

-- a pointer to an offset: 14 bits after two that are set
abbrev pub pointer_octets : ℕ → List ℕ
pointer_octets offset = (pointer_bits + offset / 256) ∷ (offset % 256) ∷ []

-- A pointer to this offset may stand for the labels.
abbrev pub MayPointTo : List ℕ → ℕ → ℕ → List (List ℕ) → Type 0
MayPointTo b gap hint ls = (hint < pointer_offsets) × StandsSettled b gap hint ls

-- the hints of a slot: the later one, and the former, which it took the place of
abbrev pub later_hint : List ℕ → ℕ → ℕ
later_hint hints slot = slice_index hints slot

abbrev pub former_hint : List ℕ → ℕ → ℕ
former_hint hints slot = slice_index hints (slot + slots)

-- A hint of the slot is found, to which a pointer may stand for the labels: the later one, or else the former.
abbrev pub FindsHint : List ℕ → ℕ → List ℕ → ℕ → List (List ℕ) → ℕ → Type 0
FindsHint b gap hints slot ls hint =
    MayPointTo b gap hint ls
    × ((hint ≡ later_hint hints slot) ⊎ ((MayPointTo b gap (later_hint hints slot) ls → ⊥) × (hint ≡ former_hint hints slot)))

-- None is.
abbrev pub FindsNoHint : List ℕ → ℕ → List ℕ → ℕ → List (List ℕ) → Type 0
FindsNoHint b gap hints slot ls =
    (MayPointTo b gap (later_hint hints slot) ls → ⊥) × (MayPointTo b gap (former_hint hints slot) ls → ⊥)

-- An offset that a pointer can hold becomes the later hint of a slot, and that one the former.
abbrev pub kept_hints : List ℕ → ℕ → ℕ → List ℕ
kept_hints hints slot offset =
    if nat_lt offset pointer_offsets then slice_set (slice_set hints (slot + slots) (later_hint hints slot)) slot offset else hints

-- After the message b a name is written, whose labels have these slots: from the offset at on, the labels are written as these
-- octets, and the hints become others.
module _ (slot : List (List ℕ) → ℕ) (b : List ℕ) (gap : ℕ) where
  abbrev pub Compresses : ℕ → List ℕ → List (List ℕ) → List ℕ → List ℕ → Type 0
  Compresses at hints [] octets after = (octets ≡ 0 ∷ []) × (after ≡ hints)
  Compresses at hints (l ∷ ls) octets after =
      ((hint : ℕ) × FindsHint b gap hints (slot (l ∷ ls)) (l ∷ ls) hint × (octets ≡ pointer_octets hint) × (after ≡ hints))
      ⊎ (FindsNoHint b gap hints (slot (l ∷ ls)) (l ∷ ls)
      × (rest : List ℕ) × (octets ≡ label_wire l ++ rest)
      × Compresses (at + 1 + length l) (kept_hints hints (slot (l ∷ ls)) at) ls rest after)

-- the octets before the pointer, or before the closing zero, and it
abbrev pub closed_by : List ℕ → Option ℕ → List ℕ
closed_by front None = front ++ 0 ∷ []
closed_by front (Some offset) = front ++ pointer_octets offset

abbrev pub spelled : List (List ℕ) → Spelling → List ℕ
spelled ls s = closed_by (take s.front (wire ls)) s.pointer

-- Octets of this form are written at an offset of a buffer, and end at another.
abbrev pub PutsForm : (List ℕ → Type 0) → List ℕ → ℕ → List ℕ → ℕ → Type 0
PutsForm form old at new end = (octets : List ℕ) × form octets × (new ≡ put_at old at octets) × (end ≡ at + length octets)

-- Written there they would go past the limit.
abbrev pub PutsPast : (List ℕ → Type 0) → ℕ → ℕ → Type 0
PutsPast form at limit = (octets : List ℕ) × form octets × (limit < at + length octets)
