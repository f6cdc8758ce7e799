-- Records that are gone over one by one.
use Rattle.std.specs.Prelude.{◌≡◌, ℕ, ◌≤◌, List, ◌++◌, length, map}
use Rattle.std.specs.Borrow.{Bor}
use Rattle.std.specs.List.{All, AllByRecursion}
use Rattle.dnw_base.specs.Limits.{max_message}
use Rattle.dnw_record.specs.declared.record.Record.{Record}
use Rattle.dnw_signed.specs.RecordSets.{AreCanonical, IsMember}
use Rattle.dnw_signed.specs.declared.data_list.DataList.{DataList}
use Rattle.dnw_signed.specs.Inside.Listing.{HoldsData, data_of}

-- two octets can say how long the data are
abbrev pub HasLength : Record → Type 0
HasLength r = length r.data.octets ≤ max_message

-- The records before those that are left are members.
pub record IsChecking (first : Record) (records left : List Record) : Type 0 where
  pub done : List Record
  pub split : records ≡ done ++ left
  pub members : AllByRecursion (IsMember first) done

-- what slices of octets hold
abbrev pub all_octets : List (Bor (List ℕ)) → List (List ℕ)
all_octets slices = map (λ own. own.now) slices

-- two octets can say how long each is
abbrev pub AreShort : List (Bor (List ℕ)) → Type 0
AreShort slices = All (λ own. length own.now ≤ max_message) slices

-- The data of some records are listed in canonical form. Those that are left, after them, are what all are.
pub record IsListing (records left : List Record) (list : DataList) : Type 0 where
  pub listed : HoldsData list
  pub left_fit : AllByRecursion HasLength left
  pub rest : (more : List (List ℕ)) → AreCanonical left more → AreCanonical records (data_of list ++ more)
