-- Labels that stand in octets before a limit, which are settled all.
use Rattle.std.specs.Prelude.{◌≡◌, ℕ, ◌+◌, ◌<◌, ◌≤◌, ◌⊎◌, List, length, slice_index, slice_range}
use Rattle.dnw_base.specs.Limits.{pointer_bits}
use Rattle.dnw_message_writer.specs.Standing.{after_pointer, first_item, pointed}
use Rattle.dnw_message_writer.specs.declared.standing.Spot.{Spot}

-- A pointer is next, before the limit, and points before its segment and after the header.
pub record PointsBefore (b : List ℕ) (s : Spot) : Type 0 where
  pub marked : pointer_bits ≤ slice_index b s.position
  pub prior : pointed b s.position < s.segment
  pub after_header : first_item ≤ pointed b s.position

-- No pointer is next, or the one that is next is followed.
pub record FollowsBefore (b : List ℕ) (s t : Spot) : Type 0 where
  pub inside : s.position + 2 ≤ s.limit
  pub way : ((slice_index b s.position < pointer_bits) × (t ≡ s)) ⊎ (PointsBefore b s × (t ≡ after_pointer b s))

-- These octets are next, up to the limit.
pub record AreNextBefore (b : List ℕ) (s : Spot) (octets : List ℕ) : Type 0 where
  pub fits : s.position + length octets ≤ s.limit
  pub same : slice_range b s.position (s.position + length octets) ≡ octets
