-- Data of records of other messages, taken field by field.
use Rattle.std.proofs.Common.{◌≡◌, ℕ, ◌+◌, ◌≤◌, true, false, List, ◌∷◌, ◌++◌, length, take, drop, refl, sym, ap, ◌∙◌, subst, append_assoc, arith}
use Rattle.std.specs.List.{flat_map}
use Rattle.std.proofs.lemmas.List.{length-append, length-take-le, take-append-drop}
use Rattle.dnw_base.specs.Decoder.{Decoder, advanced}
use Rattle.dnw_base.specs.DnsClasses.{class_code}
use Rattle.dnw_base.specs.Names.{wire}
use Rattle.dnw_base.specs.RecordTypes.{type_code}
use Rattle.dnw_name_read.specs.Reading.{TakesName}
use Rattle.dnw_data.specs.declared.kind.Kind.{Kind}
use Rattle.dnw_data.specs.declared.kind.NameForm.TheVariants.{Compressible}
use Rattle.dnw_data.specs.Table.{fields_of}
use Rattle.dnw_record.specs.DataCopies.{Copies, TakesPiece, TakesPieces, data_start, record_kinds}
use Rattle.dnw_record.specs.DataPieces.{IsData, name_piece, octets_of, piece_octets}
use Rattle.dnw_record.specs.Records.{RecordValue}
use Rattle.dnw_record.proofs.Alike.{copied_kinds}
use Rattle.dnw_record.proofs.Pieces.{are_pieces, behind, piece_again, pieces_again}
use Rattle.dnw_message_writer.specs.Data.{AreOfData, is_to_compress, names_among, names_to_compress, whole_octets}
use Rattle.dnw_message_writer.specs.Inside.Splitting.{HasField}
use Rattle.dnw_message_writer.specs.Inside.Taken.{IsCopiedIn, TakesAsPieces}
use Rattle.dnw_message_writer.specs.declared.pieces.Piece.{Piece}
use Rattle.dnw_message_writer.proofs.Splitting.{compress_name, passed}

-- a decoder is at what is left of it
at_left : (d : Decoder) → d.index ≤ length d.bytes → behind (take d.index d.bytes) (drop d.index d.bytes) ≡ d
at_left d within =
    ap (λ bytes. record { bytes = bytes; index = length (take d.index d.bytes) }) (take-append-drop d.index d.bytes)
    ∙ ap (λ n. record { bytes = d.bytes; index = n }) (length-take-le d.index d.bytes within)

-- data that are left, with every name whole, are their own copy
pub copies_itself : (ks : List Kind) (d : Decoder) → d.index ≤ length d.bytes → IsData ks (drop d.index d.bytes) → Copies ks d (drop d.index d.bytes)
copies_itself ks d within (fields, has) =
    let front = take d.index d.bytes in
    let there : behind front (octets_of fields) ≡ d = ap (behind front) (sym has.whole) ∙ at_left d within in
    (fields, subst (λ e. TakesPieces ks e fields) there (pieces_again ks fields front has.are), has.whole)

-- data that are left are read
pub takes_all : (ks : List Kind) (d : Decoder) (xs : List Piece) → d.index ≤ length d.bytes → AreOfData ks (drop d.index d.bytes) xs → TakesAsPieces ks d xs
takes_all ks d xs within (fields, has, of) =
    let front = take d.index d.bytes in
    let there : behind front (octets_of fields) ≡ d = ap (behind front) (sym has.whole) ∙ at_left d within in
    (fields, subst (λ e. TakesPieces ks e fields) there (pieces_again ks fields front has.are), of)

-- a name to compress is read
pub takes_name : (kind : Kind) (ks : List Kind) (d after : Decoder) (ls : List (List ℕ)) (k : ℕ) (x : Piece) (xs : List Piece) → is_to_compress kind ≡ true
    → TakesName d after ls k → whole_octets x ≡ wire ls
    → ((at : ℕ) → names_among at (x ∷ xs) ≡ (at, ls) ∷ names_among (at + length (wire ls)) xs) → TakesAsPieces ks after xs → TakesAsPieces (kind ∷ ks) d (x ∷ xs)
takes_name kind ks d after ls k x xs is takes x_is names (fields, more, of) =
    subst (λ k. TakesAsPieces (k ∷ ks) d (x ∷ xs)) (sym (compress_name kind is)) (
      name_piece Compressible ls ∷ fields,
      (after, (ls, k, takes, refl), more),
      record {
        whole = ap (λ o. o ++ flat_map whole_octets xs) x_is ∙ ap (λ o. wire ls ++ o) of.whole;
        names = λ at. names at ∙ ap (λ more. (at, ls) ∷ more) (of.names (at + length (wire ls)));
      },
    )

-- a field that is no name to compress is read
pub takes_own : (kind : Kind) (ks : List Kind) (d after : Decoder) (own : List ℕ) (x : Piece) (xs : List Piece) → is_to_compress kind ≡ false
    → d.index ≤ length d.bytes → HasField kind (drop d.index d.bytes) own → after ≡ advanced d (length own) → whole_octets x ≡ own
    → ((at : ℕ) → names_among at (x ∷ xs) ≡ names_among (at + length own) xs) → TakesAsPieces ks after xs → TakesAsPieces (kind ∷ ks) d (x ∷ xs)
takes_own kind ks d after own x xs other within (piece, own_is, split, is) after_is x_is names (fields, more, of) =
    let left = drop d.index d.bytes in
    let front = take d.index d.bytes in
    let rest = drop (length own) left in
    let here : behind front (piece_octets piece ++ rest) ≡ d = ap (λ o. behind front (o ++ rest)) (sym own_is) ∙ ap (behind front) (sym split) ∙ at_left d within in
    let bytes : (front ++ piece_octets piece) ++ rest ≡ d.bytes =
    append_assoc front (piece_octets piece) rest ∙ ap (λ o. front ++ (o ++ rest)) (sym own_is) ∙ ap (λ o. front ++ o) (sym split) ∙ take-append-drop d.index d.bytes in
    let index : length (front ++ piece_octets piece) ≡ d.index + length own =
    omega (arith, length-append front (piece_octets piece), length-take-le d.index d.bytes within, ap length own_is) in
    let there : behind (front ++ piece_octets piece) rest ≡ after =
    ap (λ b. record { bytes = b; index = length (front ++ piece_octets piece) }) bytes ∙ ap (λ n. record { bytes = d.bytes; index = n }) index ∙ sym after_is in
    let one = piece_again kind piece front rest is in (
      piece ∷ fields,
      (after, subst (λ e. TakesPiece kind d piece e) there (subst (λ e. TakesPiece kind e piece (behind (front ++ piece_octets piece) rest)) here one), more),
      record {
        whole = ap (λ o. o ++ flat_map whole_octets xs) (x_is ∙ own_is) ∙ ap (λ o. piece_octets piece ++ o) of.whole;
        names = λ at. names at ∙ (of.names (at + length own) ∙ (ap (λ o. names_to_compress (at + length o) fields) own_is ∙ sym (passed at kind piece fields rest is other)));
      },
    )

-- what is taken is a copy
pub taken_is_copied : (x : RecordValue) (xs : List Piece) → TakesAsPieces (record_kinds x) (data_start x) xs → IsCopiedIn x xs
taken_is_copied x xs (fields, takes, of) =
    let kinds = record_kinds x in
    let own = octets_of fields in
    let copies : Copies kinds (data_start x) own = (fields, takes, refl) in
    let same : fields_of (class_code x.class) (type_code x.record_type) own ≡ kinds = copied_kinds x.class x.record_type (data_start x) own copies in
    (own, copies, subst (λ ks. AreOfData ks own xs) (sym same) (fields, record { are = are_pieces kinds (data_start x) fields takes; whole = refl }, of))
