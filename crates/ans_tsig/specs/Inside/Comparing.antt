-- How far octets were compared.
use Rattle.std.specs.Prelude.{◌≡◌, ◌<◌, ℕ, List, slice_index}

-- Of so many octets no bit differs if this number is 0, and it is 0 if all octets are the same.
pub record Compares (left right : List ℕ) (count difference : ℕ) : Type 0 where
  pub same : difference ≡ 0 → (k : ℕ) → k < count → slice_index left k ≡ slice_index right k
  pub none : left ≡ right → difference ≡ 0
