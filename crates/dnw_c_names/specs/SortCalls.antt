-- Names of a list in canonical order (RFC 4034, section 6.1).
use Rattle.std.specs.Prelude.{◌≡◌, ◌<◌, ◌≤◌, ◌⊎◌, ℕ, List, [], ◌∷◌, length, Result, MatchResult}
use Rattle.dnw_base.specs.Decoder.{Decoder}
use Rattle.dnw_base.specs.Limits.{max_pointers}
use Rattle.dnw_name_read.specs.Buffers.{put}
use Rattle.dnw_name_order.specs.Sorted.{AreInOrder}
use Rattle.dnw_c_base.specs.Results.{Refuses}
use Rattle.dnw_c_base.specs.declared.failure.Failure.{Failure}
use Rattle.dnw_c_base.specs.declared.failure.Failure.TheVariants.{NoMemory, NoRoom}
use Rattle.dnw_c_names.specs.NameLists.{IsNoNextName, TakesNextName, at_first}

-- Names are read in turn up to the end of their list, which follow so many pointers at most in all.
pub data HasNames : Decoder → ℕ → List (List (List ℕ)) → Type 0 where
  none : (d : Decoder) (most : ℕ) → d.index ≡ length d.bytes → HasNames d most []
  more : (d next : Decoder) (most left : ℕ) (labels : List (List ℕ)) (others : List (List (List ℕ)))
      → TakesNextName d most labels next left → HasNames next left others → HasNames d most (labels ∷ others)

-- Names are read in turn up to one that fails.
pub data StopsNaming : Decoder → ℕ → Failure → Type 0 where
  here : (d : Decoder) (most : ℕ) (failure : Failure) → d.index < length d.bytes → IsNoNextName d most failure → StopsNaming d most failure
  later : (d next : Decoder) (most left : ℕ) (labels : List (List ℕ)) (failure : Failure)
      → TakesNextName d most labels next left → StopsNaming next left failure → StopsNaming d most failure

-- The names of a list, which may follow 65,536 pointers, are not read: one fails, or memory ran out, which an empty list does not
-- need.
abbrev pub FailsToName : List ℕ → Failure → Type 0
FailsToName list failure = StopsNaming (at_first list) max_pointers failure ⊎ ((1 ≤ length list) × (failure ≡ NoMemory))

-- The numbers of the names of a list are put, in canonical order, if there is room for them.
abbrev pub PutsOrder : List ℕ → List ℕ → List ℕ → Result (Unit {0}) Failure → Type 0
PutsOrder list old new result =
    ((names : List (List (List ℕ))) × HasNames (at_first list) max_pointers names × MatchResult result
    (λ _. (numbers : List ℕ) × AreInOrder names numbers × (new ≡ put old numbers))
    (λ failure. (length old < length names) × (failure ≡ NoRoom) × (new ≡ old)))
    ⊎ Refuses (FailsToName list) old new result
