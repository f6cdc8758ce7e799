-- The labels that the octets of a wire form give.
use Rattle.std.specs.Prelude.{◌≡◌, ℕ, zero, suc, List, [], ◌∷◌, ◌++◌, length, take, drop}
use Rattle.dnw_base.specs.Labels.{IsLabel}
use Rattle.dnw_base.specs.Names.{AreLabels, wire}

-- the labels of at most n, up to a zero octet
abbrev pub labels_within : ℕ → List ℕ → List (List ℕ)
labels_within zero bytes = []
labels_within (suc n) [] = []
labels_within (suc n) (zero ∷ bytes) = []
labels_within (suc n) (suc c ∷ bytes) = take (suc c) bytes ∷ labels_within n (drop (suc c) bytes)

-- the labels whose wire form the bytes are
unfoldable pub labels_of : List ℕ → List (List ℕ)
labels_of bytes = labels_within (length bytes) bytes

-- The bytes are a wire form.
pub record IsWire (bytes : List ℕ) : Type 0 where
  pub spelled : bytes ≡ wire (labels_of bytes)
  pub labels : AreLabels (labels_of bytes)

-- A wire form without its first label is the wire form of the others.
pub record SplitsLabel (bytes label rest : List ℕ) : Type 0 where
  pub labels : labels_of bytes ≡ label ∷ labels_of rest
  pub is_label : IsLabel label
  pub others : IsWire rest

-- octets with a closing zero
abbrev pub closed : List ℕ → List ℕ
closed bytes = bytes ++ 0 ∷ []

-- A wire form without its last label is the wire form of the others; both without the closing zero.
pub record SplitsLast (bytes before label : List ℕ) : Type 0 where
  pub labels : labels_of (closed bytes) ≡ labels_of (closed before) ++ label ∷ []
  pub others : IsWire (closed before)
