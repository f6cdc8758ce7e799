-- Labels that stand in a message while it is written, so that a pointer may stand for them (RFC 1035, section 4.1.4).
--
-- They are read as names are, but in settled octets alone: those of the header change as items are added, and two octets at the
-- gap will say how long the data are that are being written. If there are no such data, the gap is the end of the message.
-- Before each label at most one pointer is followed.
use Rattle.std.specs.Prelude.{◌≡◌, ℕ, ◌+◌, ◌<◌, ◌≤◌, ◌⊎◌, List, [], ◌∷◌, length, slice_index, slice_range}
use Rattle.dnw_base.specs.Limits.{pointer_bits}
use Rattle.dnw_base.specs.Names.{label_wire}
use Rattle.dnw_name_read.specs.Reading.{target}
use Rattle.dnw_message_writer.specs.declared.standing.Spot.{Spot}

-- the offset of the first item, after the header
abbrev pub first_item : ℕ
first_item = 12

-- The message has so many octets from p on, and they are settled.
pub record AreSettled (b : List ℕ) (gap p n : ℕ) : Type 0 where
  pub inside : p + n ≤ length b
  pub after_header : first_item ≤ p
  pub apart : (p + n ≤ gap) ⊎ (gap + 2 ≤ p)

-- where the pointer at p points to
abbrev pub pointed : List ℕ → ℕ → ℕ
pointed b p = target (slice_index b p) (slice_index b (p + 1))

-- A pointer is next, and points before its segment.
pub record LeadsBack (b : List ℕ) (gap : ℕ) (s : Spot) : Type 0 where
  pub before : s.position < s.limit
  pub settled : AreSettled b gap s.position 2
  pub marked : pointer_bits ≤ slice_index b s.position
  pub prior : pointed b s.position < s.segment

-- after the pointer that is next: in another segment, which has to end before the one that is left began
abbrev pub after_pointer : List ℕ → Spot → Spot
after_pointer b s = record { position = pointed b s.position; segment = pointed b s.position; limit = s.segment }

-- A pointer is followed if one is next that leads back.
abbrev pub FollowsPointer : List ℕ → ℕ → Spot → Spot → Type 0
FollowsPointer b gap s t = (LeadsBack b gap s × (t ≡ after_pointer b s)) ⊎ ((LeadsBack b gap s → ⊥) × (t ≡ s))

-- These octets are next, and are settled.
pub record IsThere (b : List ℕ) (gap : ℕ) (s : Spot) (octets : List ℕ) : Type 0 where
  pub before : s.position < s.limit
  pub settled : AreSettled b gap s.position (length octets)
  pub same : slice_range b s.position (s.position + length octets) ≡ octets

-- after so many octets of the segment
abbrev pub after_octets : Spot → ℕ → Spot
after_octets s n = record { position = s.position + n; segment = s.segment; limit = s.limit }

-- These labels are next, each after a pointer or not, and so is the closing zero.
abbrev pub StandsFrom : List ℕ → ℕ → Spot → List (List ℕ) → Type 0
StandsFrom b gap s [] = (t : Spot) × FollowsPointer b gap s t × IsThere b gap t (0 ∷ [])
StandsFrom b gap s (l ∷ ls) =
    (t : Spot) × FollowsPointer b gap s t × IsThere b gap t (label_wire l) × StandsFrom b gap (after_octets t (length l + 1)) ls

-- A reading that begins at p: as yet its segment may go on to the end of the message.
abbrev pub at_start : List ℕ → ℕ → Spot
at_start b p = record { position = p; segment = p; limit = length b }

-- These labels stand at p.
abbrev pub StandsSettled : List ℕ → ℕ → ℕ → List (List ℕ) → Type 0
StandsSettled b gap p ls = StandsFrom b gap (at_start b p) ls
