-- Fields are put into canonical form one by one, as a copy of them is made.
use Rattle.std.proofs.Common.{◌≡◌, ℕ, ◌+◌, ◌-◌, ◌<◌, Some, None, List, [], ◌∷◌, ◌++◌, length, refl, sym, subst, ap, ◌∙◌, append_assoc, arith}
use Rattle.std.proofs.lemmas.List.{append-nil, length-append, map-append}
use Rattle.std.proofs.lemmas.List.Concat.{flat_map-append}
use Rattle.dnw_base.proofs.Wires.{length_wire}
use Rattle.dnw_base.specs.declared.error.DecodeError.TheVariants.{IncorrectRDataLengthRead}
use Rattle.dnw_base.specs.Decoder.{Decoder}
use Rattle.dnw_base.specs.Names.{lower}
use Rattle.dnw_data.specs.declared.fields.FieldError.{FieldError}
use Rattle.dnw_data.specs.declared.kind.Kind.{Kind}
use Rattle.dnw_data.specs.declared.kind.NameForm.TheVariants.{Compressible, Lowered, Plain}
use Rattle.dnw_data.specs.Walks.{IsAtEnd}
use Rattle.dnw_name_form.proofs.LowerWires.{encoded_size_lower}
use Rattle.dnw_record.specs.Records.{RecordValue}
use Rattle.dnw_record.specs.DataCopies.{Copies, FailsPiece, TakesPiece, alone, data_start, record_kinds}
use Rattle.dnw_record.specs.DataPieces.{DataPiece, DataValue, HasPieces, IsDataOfType, data_kinds, name_piece, octets_of, octets_piece, piece_octets}
use Rattle.dnw_record.proofs.Alike.{copied_kinds}
use Rattle.dnw_record.proofs.Pieces.{whole_pieces}
use Rattle.dnw_record.proofs.Copying.{begins, goes-on, left-over, stops}
use Rattle.dnw_record.proofs.Pieces.{are_pieces, pieces_unique}
use Rattle.dnw_signed.specs.CanonicalData.{IsCanonical, IsCanonicalOf, ReadsCanonical, canonical_piece, canonical_pieces}
use Rattle.dnw_record.specs.declared.rdata.RDataError.{RDataError}
use Rattle.dnw_record.specs.declared.rdata.RDataError.TheVariants.{Field, Memory}
use Rattle.dnw_record.specs.DataPointers.{FieldFollows, TakesPointers, next_field, no_field, too_few}
use Rattle.dnw_signed.specs.declared.error.CanonicalError.{CanonicalError}
use Rattle.dnw_signed.specs.declared.error.CanonicalError.TheVariants as why
use Rattle.dnw_signed.specs.Inside.Putting.{FailsFew, IsPutting, IsPuttingFew, of_data}
use Rattle.dnw_signed.specs.Inside.Selecting.{FailsSelected}
use Rattle.dnw_record.proofs.Followed.{all_passed}

module _ {kinds : List Kind} {start : Decoder} {before : List ℕ} where
  pub begins_putting : IsPutting kinds start before kinds start before
  begins_putting = record { done = []; put = sym (append-nil before); pieces = λ more h. h; copy = []; copying = begins }

  pub puts_on : {others : List Kind} {kind : Kind} {d after : Decoder} {octets longer : List ℕ} → IsPutting kinds start before (kind ∷ others) d octets
      → (piece : DataPiece) → TakesPiece kind d piece after → longer ≡ octets ++ piece_octets (canonical_piece piece)
      → IsPutting kinds start before others after longer
  puts_on {others} {kind} {d} {after} {octets} c piece takes more_is =
      let own = piece_octets (canonical_piece piece) in
      let one : octets_of (canonical_pieces (c.done ++ piece ∷ [])) ≡ octets_of (canonical_pieces c.done) ++ own =
      ap octets_of (map-append canonical_piece c.done (piece ∷ [])) ∙ flat_map-append piece_octets (canonical_pieces c.done) (canonical_piece piece ∷ [])
      ∙ ap (λ (x : List ℕ). octets_of (canonical_pieces c.done) ++ x) (append-nil own) in
      record {
        done = c.done ++ piece ∷ [];
        put = more_is ∙ ap (λ (x : List ℕ). x ++ own) c.put ∙ append_assoc before (octets_of (canonical_pieces c.done)) own
            ∙ ap (λ (x : List ℕ). before ++ x) (sym one);
        pieces = λ more h. rw append_assoc (c.pieces (piece ∷ more) (after, takes, h));
        copy = c.copy ++ piece_octets piece;
        copying = goes-on c.copying piece takes refl;
      }

  pub all_put : (left : List Kind) {d : Decoder} {octets : List ℕ} → length left ≡ 0 → IsPutting kinds start before left d octets → IsAtEnd d
      → (more : List ℕ) × ReadsCanonical kinds start more × (octets ≡ before ++ more)
  all_put [] none c end = (octets_of (canonical_pieces c.done), (c.done, rw append-nil at (c.pieces [] end), refl), c.put)
  all_put (kind ∷ left) none c end = absurd (omega (arith, none))

-- ---- few pointers

module _ {kinds : List Kind} {start : Decoder} {most : ℕ} {before : List ℕ} where
  pub begins_few : IsPuttingFew kinds start most before kinds start most before
  begins_few = record { putting = begins_putting; taken = λ end h. h }

  module _ {others : List Kind} {kind : Kind} {d : Decoder} {now : ℕ} {octets : List ℕ} (c : IsPuttingFew kinds start most before (kind ∷ others) d now octets) where
    pub few_on : {after : Decoder} {longer : List ℕ} {rest : ℕ} (k : ℕ) (piece : DataPiece) → TakesPiece kind d piece after → FieldFollows kind d after k → rest + k ≡ now
        → longer ≡ octets ++ piece_octets (canonical_piece piece) → IsPuttingFew kinds start most before others after rest longer
    few_on {after} {rest = rest} k piece takes follows sum more_is =
        record {
          putting = puts_on c.putting piece takes more_is;
          taken = λ end later. c.taken end (next_field kind others d after k now rest end follows sum later);
        }

    pub too_many : (after : Decoder) (k : ℕ) → FieldFollows kind d after k → now < k → TakesPointers kinds start most None
    too_many after k follows less = c.taken None (too_few kind others d after k now follows less)

    pub few_stop : {number : ℕ} (place : ℕ) (error : RDataError) → number ≡ length kinds - length (kind ∷ others) → FailsPiece kind number d error
        → FailsFew kinds start most place (of_data place error)
    few_stop place (Field error) is fails =
        (refl, (now, c.taken (Some now) (no_field kind others d now (error.cause, fails.1)), stops c.putting.copying (Field error) is fails))
    few_stop place Memory is fails = tt

  module _ {d : Decoder} {now : ℕ} {octets : List ℕ} where
    pub few_put : (left : List Kind) → length left ≡ 0 → IsPuttingFew kinds start most before left d now octets → IsAtEnd d
        → (more : List ℕ) × TakesPointers kinds start most (Some now) × ReadsCanonical kinds start more × (octets ≡ before ++ more)
    few_put left none c end =
        let (more, reads, is) = all_put left none c.putting end in
        (more, c.taken (Some now) (all_passed left d now none), reads, is)

    pub few_left : (left : List Kind) → length left ≡ 0 → IsPuttingFew kinds start most before left d now octets → (¬ (IsAtEnd d)) → (place : ℕ) (error : FieldError)
        → error.field ≡ length kinds → error.cause ≡ IncorrectRDataLengthRead (d.index - start.index) (length d.bytes - start.index)
        → FailsFew kinds start most place (why.Field place error)
    few_left left none c more place error field_is cause_is =
        (refl, (now, c.taken (Some now) (all_passed left d now none), left-over left none c.putting.copying more error field_is cause_is))

    -- what was there is still before all
    pub few_grown : {left : List Kind} {longer : List ℕ} → IsPuttingFew kinds start most before left d now octets → (more : List ℕ) × (longer ≡ octets ++ more)
        → (all : List ℕ) × (longer ≡ before ++ all)
    few_grown c (more, is) =
        let own = octets_of (canonical_pieces c.putting.done) in
        (own ++ more, is ∙ ap (λ (x : List ℕ). x ++ more) c.putting.put ∙ append_assoc before own more)

-- fields of a record of a message that are not put
pub few_selected : (r : RecordValue) (most place : ℕ) (error : CanonicalError) → FailsFew (record_kinds r) (data_start r) most place error
    → FailsSelected r most place error
few_selected r most place (why.Field number error) fails = fails
few_selected r most place (why.TooManyPointers number) fails = fails
few_selected r most place why.Memory fails = tt
few_selected r most place (why.DataTooLong number) fails = absurd fails
few_selected r most place why.NoRecords fails = absurd fails
few_selected r most place why.TooFewLabels fails = absurd fails
few_selected r most place (why.NotInSet number) fails = absurd fails
few_selected r most place why.NotRrsig fails = absurd fails
few_selected r most place (why.RrsigField error) fails = absurd fails

-- ---- sizes

piece_size : (piece : DataPiece) → length (piece_octets (canonical_piece piece)) ≡ length (piece_octets piece)
piece_size (octets_piece own) = refl
piece_size (name_piece Plain labels) = refl
piece_size (name_piece Lowered labels) = omega (arith, length_wire labels, length_wire (lower labels), encoded_size_lower labels)
piece_size (name_piece Compressible labels) = omega (arith, length_wire labels, length_wire (lower labels), encoded_size_lower labels)

same_size : (pieces : List DataPiece) → length (octets_of (canonical_pieces pieces)) ≡ length (octets_of pieces)
same_size [] = refl
same_size (piece ∷ pieces) =
    omega (
      arith,
      piece_size piece,
      same_size pieces,
      length-append (piece_octets (canonical_piece piece)) (octets_of (canonical_pieces pieces)),
      length-append (piece_octets piece) (octets_of pieces),
    )

-- ---- data of their own, and those of a record of a message

pub canonical_of : (x : DataValue) (octets : List ℕ) → IsDataOfType x → ReadsCanonical (data_kinds x) (alone x.octets) octets
    → IsCanonical x octets × (length octets ≡ length x.octets)
canonical_of x octets (pieces, has) (read, takes, is) =
    let same = pieces_unique (data_kinds x) (alone x.octets) read pieces takes (whole_pieces (data_kinds x) x.octets pieces has) in
    let canonical : octets ≡ octets_of (canonical_pieces pieces) = is ∙ ap (λ ps. octets_of (canonical_pieces ps)) same in
    ((pieces, has, canonical), ap length canonical ∙ same_size pieces ∙ ap length (sym has.whole))

-- a copy of the data of a record of a message
abbrev pub copy_of : RecordValue → List ℕ → DataValue
copy_of r own = record { class = r.class; record_type = r.record_type; octets = own }

pub canonical_copy : (r : RecordValue) (octets : List ℕ) → IsCanonicalOf r octets
    → (own : List ℕ) × Copies (record_kinds r) (data_start r) own × IsCanonical (copy_of r own) octets × (length octets ≡ length own)
canonical_copy r octets (pieces, takes, is) =
    let own = octets_of pieces in
    let copied : Copies (record_kinds r) (data_start r) own = (pieces, takes, refl) in
    let has : HasPieces (record_kinds r) own pieces = record { are = are_pieces (record_kinds r) (data_start r) pieces takes; whole = refl } in (
      own,
      copied,
      (pieces, subst (λ kinds. HasPieces kinds own pieces) (sym (copied_kinds r.class r.record_type (data_start r) own copied)) has, is),
      ap length is ∙ same_size pieces,
    )
