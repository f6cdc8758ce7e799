-- What follows from the definitions of sets of records. Each is the clause of a public function, and so proved.
use Rattle.std.specs.Prelude.{◌≡◌, ℕ, List}
use Rattle.std.specs.List.{All, Any}
use Rattle.std.specs.List.Sorted.{IsPermutation}
use Rattle.dnw_record.specs.declared.record.Record.{Record}
use Rattle.dnw_record.specs.DataPieces.{DataPiece, DataValue, HasPieces, data_kinds}
use Rattle.dnw_signed.specs.CanonicalData.{canonical_pieces}
use Rattle.dnw_signed.specs.RecordSets.{IsOfSet, IsRecordSet}

-- Data are the same but for the case of names that canonical form lowers.
abbrev pub IsLikeData : DataValue → DataValue → Type 0
IsLikeData x y =
    (pieces : List DataPiece) × (others : List DataPiece) × HasPieces (data_kinds x) x.octets pieces
    × HasPieces (data_kinds y) y.octets others × (canonical_pieces pieces ≡ canonical_pieces others)

-- A record is the same as another but for the case of such names, and but for its time to live.
abbrev pub IsLike : Record → Record → Type 0
IsLike r s = IsOfSet r s × IsLikeData r.data s.data

-- Each record is like one of the others.
abbrev pub AreAmong : List Record → List Record → Type 0
AreAmong records others = All (λ r. Any (IsLike r) others) records

-- The octets depend on the set alone: not on the order of the records, on how often one is there, on the case of names, or on
-- the times to live.
abbrev pub DependsOnSet : Type 0
DependsOnSet = (records others : List Record) (labels ttl : ℕ) (a b : List ℕ) → AreAmong records others → AreAmong others records
    → IsRecordSet records labels ttl a → IsRecordSet others labels ttl b → a ≡ b

-- So any order of the records gives the same octets.
abbrev pub KeepsInAnyOrder : Type 0
KeepsInAnyOrder = (records others : List Record) (labels ttl : ℕ) (a b : List ℕ) → IsPermutation records others
    → IsRecordSet records labels ttl a → IsRecordSet others labels ttl b → a ≡ b
