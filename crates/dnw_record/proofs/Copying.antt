-- Data are copied field by field: what is left, after the pieces that are copied, is what all is from the start.
use Rattle.std.proofs.Common.{◌≡◌, ℕ, ◌-◌, None, Some, List, [], ◌∷◌, ◌++◌, length, refl, sym, ap, ◌∙◌, append_assoc, arith}
use Rattle.std.proofs.lemmas.List.{append-nil, length-append}
use Rattle.std.proofs.lemmas.List.Concat.{flat_map-append}
use Rattle.dnw_base.specs.declared.error.DecodeError.TheVariants.{IncorrectRDataLengthRead}
use Rattle.dnw_base.specs.Decoder.{Decoder}
use Rattle.dnw_data.specs.declared.kind.Kind.{Kind}
use Rattle.dnw_data.specs.declared.kind.Kind.TheVariants.{Name}
use Rattle.dnw_data.specs.declared.fields.FieldError.{FieldError}
use Rattle.dnw_data.specs.Fields.{TakesField, TakesOwn, own_at}
use Rattle.dnw_data.specs.Values.{FieldValue}
use Rattle.dnw_data.specs.Walks.{FieldsAre, IsAtEnd}
use Rattle.dnw_data.proofs.Taking.{moves_on}
use Rattle.dnw_data.proofs.Walking.{one_reading}
use Rattle.dnw_record.specs.PieceLaws.{piece_value, piece_values}
use Rattle.std.proofs.lemmas.Option.{none-some}
use Rattle.dnw_record.specs.declared.rdata.RDataError.{RDataError}
use Rattle.dnw_record.specs.declared.rdata.RDataError.TheVariants.{Field, Memory}
use Rattle.dnw_record.specs.DataPieces.{DataPiece, name_piece, octets_of, octets_piece, piece_octets}
use Rattle.dnw_record.specs.DataCopies.{Copies, FailsPiece, FailsToCopy, TakesPiece, TakesPieces}
use Rattle.dnw_record.specs.Inside.Copying.{IsCopying, IsNoName}

-- a field other than a name is its own octets
pub takes_own : (kind : Kind) (d after : Decoder) (v : FieldValue) → IsNoName kind → TakesField kind d v after → TakesOwn kind d v after
takes_own (Name form) d after v other h = absurd other
takes_own kind d after v other h = h

-- pieces are those of fields
pub takes_value : (kind : Kind) (d after : Decoder) (piece : DataPiece) → TakesPiece kind d piece after → TakesField kind d (piece_value kind piece) after
takes_value (Name form) d after piece (labels, k, takes, is) = (labels, k, takes, ap (piece_value (Name form)) is)
takes_value kind d after piece (enough, right, is, there) = (enough, right, ap (piece_value kind) is, there)

pub take_values : (start : ℕ) (kinds : List Kind) (d : Decoder) (pieces : List DataPiece) → TakesPieces kinds d pieces
    → FieldsAre start kinds d (piece_values kinds pieces) None
take_values start [] d [] end = (refl, end)
take_values start [] d (piece ∷ pieces) takes = absurd takes
take_values start (kind ∷ kinds) d [] takes = absurd takes
take_values start (kind ∷ kinds) d (piece ∷ pieces) (after, one, more) =
    (after, kinds, (takes_value kind d after piece one, refl), take_values start kinds after pieces more)

-- Fields that are all read have no first one that is none.
pub not_both : (kinds : List Kind) (start : Decoder) (pieces : List DataPiece) (error : FieldError) → TakesPieces kinds start pieces
    → FailsToCopy kinds start (Field error) → ⊥
not_both kinds start pieces error takes (values, _, fails) =
    none-some _ (one_reading start.index kinds start _ values None (Some error.cause) (take_values start.index kinds start pieces takes) fails).1

-- a field has a piece
pub piece_of : (kind : Kind) (d after : Decoder) (v : FieldValue) → TakesField kind d v after → (piece : DataPiece) × TakesPiece kind d piece after
piece_of (Name form) d after v (labels, k, takes, is) = (name_piece form labels, (labels, k, takes, refl))
piece_of kind d after v (enough, right, is, there) = (octets_piece (own_at kind d), (enough, right, refl, there))

module _ {kinds : List Kind} {start : Decoder} {before : List ℕ} where
  pub begins : IsCopying kinds start before kinds start before
  begins = record {
    done = [];
    read = [];
    copied = sym (append-nil before);
    count = omega arith;
    order = omega arith;
    same = refl;
    pieces = λ more h. h;
    fields = λ more outcome h. h;
  }

  module _ {others : List Kind} {kind : Kind} {d : Decoder} {octets : List ℕ} (c : IsCopying kinds start before (kind ∷ others) d octets) where
    pub goes-on : {after : Decoder} {longer : List ℕ} (piece : DataPiece) → TakesPiece kind d piece after → longer ≡ octets ++ piece_octets piece
        → IsCopying kinds start before others after longer
    goes-on {after} piece takes more_is =
        let v = piece_value kind piece in
        let field = takes_value kind d after piece takes in
        let (later, same) = moves_on kind d after v field in
        let one : octets_of (c.done ++ piece ∷ []) ≡ octets_of c.done ++ piece_octets piece =
        flat_map-append piece_octets c.done (piece ∷ []) ∙ ap (λ (x : List ℕ). octets_of c.done ++ x) (append-nil (piece_octets piece)) in
        record {
          done = c.done ++ piece ∷ [];
          read = c.read ++ v ∷ [];
          copied = more_is ∙ ap (λ (x : List ℕ). x ++ piece_octets piece) c.copied ∙ append_assoc before (octets_of c.done) (piece_octets piece)
              ∙ ap (λ (x : List ℕ). before ++ x) (sym one);
          count = omega (arith, c.count, length-append c.read (v ∷ []));
          order = omega (arith, later, c.order);
          same = same ∙ c.same;
          pieces = λ more h. rw append_assoc (c.pieces (piece ∷ more) (after, takes, h));
          fields = λ more outcome h. rw append_assoc (c.fields (v ∷ more) outcome (after, others, (field, refl), h));
        }

    pub stops : {number : ℕ} (error : RDataError) → number ≡ length kinds - length (kind ∷ others) → FailsPiece kind number d error → FailsToCopy kinds start error
    stops (Field error) number_is (is, fails) =
        (c.read ++ [], omega (arith, length-append {A = FieldValue} c.read [], c.count, is, number_is), c.fields [] (Some error.cause) fails)
    stops Memory number_is fails = tt

  -- the kinds have run out
  module _ {d : Decoder} {octets : List ℕ} where
    pub ends : (left : List Kind) → length left ≡ 0 → IsCopying kinds start before left d octets → IsAtEnd d
        → (more : List ℕ) × Copies kinds start more × (octets ≡ before ++ more)
    ends [] none c end = (octets_of c.done, (c.done, rw append-nil at (c.pieces [] end), refl), c.copied)
    ends (kind ∷ left) none c end = absurd (omega (arith, none))

    pub left-over : (left : List Kind) → length left ≡ 0 → IsCopying kinds start before left d octets → (¬ (IsAtEnd d)) → (error : FieldError) → error.field ≡ length kinds
        → error.cause ≡ IncorrectRDataLengthRead (d.index - start.index) (length d.bytes - start.index) → FailsToCopy kinds start (Field error)
    left-over [] none c more error field_is cause_is =
        (c.read ++ [], omega (arith, length-append {A = FieldValue} c.read [], c.count, field_is), c.fields [] (Some error.cause) (more, cause_is))
    left-over (kind ∷ left) none c more error field_is cause_is = absurd (omega (arith, none))
