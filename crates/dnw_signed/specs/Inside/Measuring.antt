-- Records of which some are looked at: whose data have lengths of two octets, and which are digested.
use Rattle.std.specs.Prelude.{◌≡◌, ◌≤◌, ℕ, List, ◌++◌, length}
use Rattle.std.specs.List.{All, AllByRecursion}
use Rattle.dnw_base.specs.Limits.{max_message}
use Rattle.dnw_record.specs.declared.record.Record.{Record}
use Rattle.dnw_signed.specs.ZoneDigests.{AreDigested, CanonicalRecord, HasShortData}

-- two octets can say how long the data of each are
abbrev pub HaveShortData : List CanonicalRecord → Type 0
HaveShortData zone = All (λ z. length z.octets ≤ max_message) zone

-- The data of the records before those that are left have lengths.
pub record AreMeasured (records left : List Record) : Type 0 where
  pub done : List Record
  pub split : records ≡ done ++ left
  pub fit : AllByRecursion HasShortData done

-- Of the records before those that are left these are digested.
pub record AreDigestedBefore (apex : List (List ℕ)) (records left : List Record) (zone : List CanonicalRecord) : Type 0 where
  pub rest : (more : List CanonicalRecord) → AreDigested apex left more → AreDigested apex records (zone ++ more)
