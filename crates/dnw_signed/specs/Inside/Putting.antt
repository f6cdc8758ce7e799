-- Fields that are put into canonical form, one by one.
use Rattle.std.specs.Prelude.{◌≡◌, ℕ, Option, Some, None, List, [], ◌++◌}
use Rattle.dnw_base.specs.Decoder.{Decoder}
use Rattle.dnw_data.specs.declared.kind.Kind.{Kind}
use Rattle.dnw_record.specs.DataCopies.{FailsToCopy, TakesPieces}
use Rattle.dnw_record.specs.DataPieces.{DataPiece, octets_of}
use Rattle.dnw_record.specs.Inside.Copying.{IsCopying}
use Rattle.dnw_record.specs.declared.rdata.RDataError.{RDataError}
use Rattle.dnw_record.specs.declared.rdata.RDataError.TheVariants as rdata
use Rattle.dnw_signed.specs.CanonicalData.{canonical_pieces}
use Rattle.dnw_record.specs.DataPointers.{TakesPointers}
use Rattle.dnw_signed.specs.declared.error.CanonicalError.{CanonicalError}
use Rattle.dnw_signed.specs.declared.error.CanonicalError.TheVariants as why

-- Some pieces are put after what was there. What is left from here on, after them, is what all is from the start.
pub record IsPutting (kinds : List Kind) (start : Decoder) (before : List ℕ) (left : List Kind) (d : Decoder) (octets : List ℕ) : Type 0 where
  pub done : List DataPiece
  pub put : octets ≡ before ++ octets_of (canonical_pieces done)
  pub pieces : (more : List DataPiece) → TakesPieces left d more → TakesPieces kinds start (done ++ more)
  pub copy : List ℕ
  pub copying : IsCopying kinds start [] left d copy

-- The same, and the pointers that names follow are taken: so many are left of those that may be followed. What is taken from here on
-- gives what all takes from the start.
pub record IsPuttingFew (kinds : List Kind) (start : Decoder) (most : ℕ) (before : List ℕ) (left : List Kind) (d : Decoder) (now : ℕ) (octets : List ℕ) : Type 0 where
  pub putting : IsPutting kinds start before left d octets
  pub taken : (end : Option ℕ) → TakesPointers left d now end → TakesPointers kinds start most end

-- why there are no data of the record with this number
abbrev pub of_data : ℕ → RDataError → CanonicalError
of_data number (rdata.Field error) = why.Field number error
of_data number rdata.Memory = why.Memory

-- Fields that start there are not put: names follow more pointers than may be followed; or they do not, and the fields are none of
-- these kinds, or memory ran out.
abbrev pub FailsFew : List Kind → Decoder → ℕ → ℕ → CanonicalError → Type 0
FailsFew kinds d most place (why.Field number error) =
    (number ≡ place) × ((end : ℕ) × TakesPointers kinds d most (Some end) × FailsToCopy kinds d (rdata.Field error))
FailsFew kinds d most place (why.TooManyPointers number) = (number ≡ place) × TakesPointers kinds d most None
FailsFew kinds d most place why.Memory = Unit {0}
FailsFew kinds d most place error = ⊥
