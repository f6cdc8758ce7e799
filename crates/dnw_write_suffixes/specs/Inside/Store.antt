-- How candidates are kept: the bytes of all of them one after the other.
use Rattle.std.specs.Prelude.{ℕ, ◌+◌, ◌<◌, ◌≤◌, List, map, take, drop}
use Rattle.std.specs.List.{All}
use Rattle.dnw_base.specs.Limits.{pointer_reach}
use Rattle.dnw_write_suffixes.specs.Candidates.{Candidate}
use Rattle.dnw_write_suffixes.specs.declared.store.Entry.{Entry}

-- an entry's offset, and its part of the bytes
abbrev pub candidate_of : List ℕ → Entry → Candidate
candidate_of bytes entry = (entry.start, take entry.size (drop entry.from bytes))

abbrev pub held : List ℕ → List Entry → List Candidate
held bytes entries = map (candidate_of bytes) entries

-- each one's part ends within so many bytes
abbrev pub AreWithin : ℕ → List Entry → Type 0
AreWithin size entries = All (λ e. e.from + e.size ≤ size) entries

-- The entry's part is there, and its offset is before the end and within the reach of pointers.
pub record IsHeld (size end : ℕ) (e : Entry) : Type 0 where
  pub within : e.from + e.size ≤ size
  pub before : e.start < end
  pub reached : e.start < pointer_reach

abbrev pub AreHeld : ℕ → ℕ → List Entry → Type 0
AreHeld size end entries = All (IsHeld size end) entries
