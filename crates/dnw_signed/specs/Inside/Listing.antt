-- Data in canonical form that follow one another in a buffer.
use Rattle.std.specs.Prelude.{◌≡◌, ℕ, ◌+◌, ◌≤◌, ◌<◌, Bool, true, false, List, [], ◌∷◌, ◌++◌, length, take, drop}
use Rattle.std.specs.List.{AllByRecursion}
use Rattle.dnw_base.specs.Limits.{max_message}
use Rattle.dnw_signed.specs.declared.data_list.DataList.{DataList}

abbrev pub total : List ℕ → ℕ
total [] = 0
total (size ∷ sizes) = size + total sizes

-- the pieces of these sizes, one after another
abbrev pub cut : List ℕ → List ℕ → List (List ℕ)
cut octets [] = []
cut octets (size ∷ sizes) = take size octets ∷ cut (drop size octets) sizes

-- the data of a list, in turn
abbrev pub data_of : DataList → List (List ℕ)
data_of list = cut list.octets.items list.sizes.items

-- The sizes are those of all octets, and two octets can say each.
abbrev pub AreCut : List ℕ → List ℕ → Type 0
AreCut octets sizes = (length octets ≡ total sizes) × AllByRecursion (λ size. size ≤ max_message) sizes

abbrev pub HoldsData : DataList → Type 0
HoldsData list = AreCut list.octets.items list.sizes.items

-- Data are appended to a list, or they are too long.
abbrev pub TakesData : Bool → DataList → List ℕ → DataList → Type 0
TakesData true before more after = (length more ≤ max_message) × HoldsData after × (data_of after ≡ data_of before ++ more ∷ [])
TakesData false before more after = max_message < length more
