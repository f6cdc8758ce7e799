-- What the finished bytes of a run hold, and how few they are.
use Rattle.std.specs.Prelude.{◌≡◌, ◌≢◌, ℕ, ◌+◌, ◌≤◌, max, true, List, [], ◌∷◌, ◌++◌, length, take, ◌⊎◌}
use Rattle.std.specs.List.{Contains}
use Rattle.dnw_write.specs.EmittedName.{in_mode, is_compressed}
use Rattle.dnw_base.specs.Limits.{max_name, pointer_reach}
use Rattle.dnw_base.specs.Names.{NameValue, encoded_size}
use Rattle.dnw_write_script.specs.declared.script.Part.TheVariants.{Name}
use Rattle.dnw_write_script.specs.declared.script.Reply.{Reply}
use Rattle.dnw_write_script.specs.declared.script.Reply.TheVariants.{Done}
use Rattle.dnw_write_script.specs.Script.{Action, write, set_encoding, set_max}
use Rattle.dnw_write_script.specs.Pieces.{Piece, name_piece, PiecesLie, opening, account_from}

-- The finished bytes begin with the old ones, and the pieces follow, up to the end. Those of the first steps end at the
-- length that the replies to these steps report.
pub record Finished (old : List ℕ) (actions : List Action) (replies : List Reply) (bytes : List ℕ) : Type 0 where
  pub begins : take (length old) bytes ≡ old
  pub spells : (first rest : List Action) (given others : List Reply) → actions ≡ first ++ rest → replies ≡ given ++ others
      → length first ≡ length given
      → PiecesLie bytes (take (length (account_from (opening (length old)) first given).pieces) (account_from (opening (length old)) actions replies).pieces)
      (length old) (account_from (opening (length old)) first given).len
  pub ends : (account_from (opening (length old)) actions replies).len ≡ length bytes

-- ---- the most length

-- the maximum after a step
abbrev pub max_after : ℕ → Action → ℕ
max_after most (set_max size) = size
max_after most action = most

-- the largest maximum in force during these steps, the first of which begins with this one; a new maximum counts from its
-- step on
abbrev pub largest_max : ℕ → List Action → ℕ
largest_max most [] = 0
largest_max most (action ∷ actions) = max (max_after most action) (largest_max (max_after most action) actions)

-- ---- the least length

-- the piece is a name that ends in these labels, byte for byte as it is written
abbrev pub IsEndOf : List (List ℕ) → Piece → Type 0
IsEndOf back (name_piece mode labels) = (front : List (List ℕ)) × (in_mode mode labels ≡ front ++ back)
IsEndOf back piece = ⊥

-- one of the pieces is
abbrev pub EndsIn : List Piece → List (List ℕ) → Type 0
EndsIn pieces back = (piece : Piece) × Contains pieces piece × IsEndOf back piece

-- A name from p to e is as short as possible: its wire form, or if that is less, the wire form minus the longest suffix
-- that an earlier name ends in, plus 2 for the pointer.
pub record IsShortest (pieces : List Piece) (labels : List (List ℕ)) (p e : ℕ) : Type 0 where
  pub at_most_whole : e ≤ p + encoded_size labels
  pub at_most_shared : (front back : List (List ℕ)) → labels ≡ front ++ back → back ≢ [] → EndsIn pieces back
      → e + encoded_size back ≤ p + encoded_size labels + 2
  pub reached : (e ≡ p + encoded_size labels)
      ⊎ ((front : List (List ℕ)) × (back : List (List ℕ)) × (labels ≡ front ++ back) × (back ≢ []) × EndsIn pieces back
      × (e + encoded_size back ≡ p + encoded_size labels + 2))

-- the steps are names and modes alone
abbrev pub AreNames : List Action → Type 0
AreNames [] = Unit {0}
AreNames (write (Name name) ∷ actions) = AreNames actions
AreNames (set_encoding mode ∷ actions) = AreNames actions
AreNames (action ∷ actions) = ⊥

-- how many names they have
abbrev pub count_names : List Action → ℕ
count_names [] = 0
count_names (write (Name name) ∷ actions) = 1 + count_names actions
count_names (action ∷ actions) = count_names actions

-- and how many labels
abbrev pub count_labels : List Action → ℕ
count_labels [] = 0
count_labels (write (Name name) ∷ actions) = length name.labels + count_labels actions
count_labels (action ∷ actions) = count_labels actions

-- A name that is compressed is as short as possible, if only names and modes are before it, no more of them than are
-- compressed and kept, and any name that begins there ends within the reach of pointers.
abbrev pub Shortest : ℕ → ℕ → ℕ → List Action → List Reply → Type 0
Shortest start candidates names actions replies =
    (first : List Action) (name : NameValue) (rest : List Action) (given others : List Reply) (len : ℕ)
    → actions ≡ first ++ write (Name name) ∷ rest → replies ≡ given ++ Done len ∷ others → length first ≡ length given
    → is_compressed (account_from (opening start) first given).mode ≡ true → AreNames first
    → count_names first + 1 ≤ names → count_labels first + length name.labels ≤ candidates
    → (account_from (opening start) first given).len + max_name ≤ pointer_reach
    → IsShortest (account_from (opening start) first given).pieces name.labels (account_from (opening start) first given).len len
