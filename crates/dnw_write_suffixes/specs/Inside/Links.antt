-- Links: the candidates that share one of 4,096 tags are linked in a ring, as by tags, once there are many.
use Rattle.std.specs.Prelude.{ℕ, ◌+◌, ◌-◌, ◌*◌, ◌/◌, ◌%◌, List, [], ◌∷◌, get_or, length, take}
use Rattle.dnw_name_form.specs.Inside.Fours.{four}
use Rattle.dnw_write_suffixes.specs.Candidates.{Candidate}
use Rattle.dnw_write_suffixes.specs.Inside.TagTable.{AreTaggedByFront, AreTagged}

-- up to three octets as one number
abbrev pub few : List ℕ → ℕ
few (a ∷ b ∷ c ∷ []) = four a b c 0
few (a ∷ b ∷ []) = four a b 0 0
few (a ∷ []) = four a 0 0 0
few octets = 0

-- a number below 2 ^ 32 that another one and twice four octets make
abbrev pub stir : ℕ → ℕ → ℕ → ℕ
stir mixed first second = ((mixed + first) * 1013904223 + second * 2146121005) / 65536 % 4294967296

-- the number that octets make, eight at a time, after another one
abbrev pub mix : ℕ → List ℕ → ℕ
mix mixed (a ∷ b ∷ c ∷ d ∷ e ∷ f ∷ g ∷ h ∷ octets) = mix (stir mixed (four a b c d) (four e f g h)) octets
mix mixed (a ∷ b ∷ c ∷ d ∷ octets) = stir mixed (four a b c d) (few octets)
mix mixed octets = stir mixed (few octets) 0

-- A number below 4,096 that labels' bytes have, by their number, the last, and the first 64, so by the whole first label.
abbrev pub wide_tag : List ℕ → ℕ
wide_tag bytes = mix (length bytes % 256 + get_or bytes (length bytes - 1) 0 * 256) (take 64 bytes) / 4096 % 4096

-- The first ones of the candidates are linked, so many.
abbrev pub AreChained : List ℕ → List ℕ → ℕ → List Candidate → Type 0
AreChained = AreTagged 4096 wide_tag

-- The candidates are marked and linked.
pub record AreIndexed (last next : List ℕ) (count : ℕ) (lasts links : List ℕ) (linked : ℕ) (candidates : List Candidate) : Type 0 where
  pub marked : AreTaggedByFront last next count candidates
  pub chained : AreChained lasts links linked candidates
