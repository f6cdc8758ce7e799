-- Pieces that are read are fields of their kinds, with every name whole, and are read again wherever they are.
use Rattle.std.proofs.Common.{◌≡◌, ℕ, suc, ◌+◌, ◌-◌, ◌≤◌, max, None, List, [], ◌∷◌, ◌++◌, length, take, drop, slice_index, refl, sym, ap, ◌∙◌, subst, append_assoc, arith}
use Rattle.std.proofs.lemmas.List.{append-nil, drop_at, length-append, length-drop, nil_from_length}
use Rattle.std.proofs.lemmas.List.Edits.{length-between}
use Rattle.std.proofs.Math.Seq.{take-length}
use Rattle.dnw_base.specs.Decoder.{Decoder}
use Rattle.dnw_base.specs.Names.{AreLabels, encoded_size, wire}
use Rattle.dnw_base.proofs.Wires.{length_wire}
use Rattle.dnw_name_read.proofs.Back.{Reads_wire, slice_range_middle}
use Rattle.dnw_name_read.proofs.Counts.{NameAt_labels, Reads_own}
use Rattle.dnw_name_read.proofs.Takes.{TakesName_unique}
use Rattle.dnw_data.specs.declared.kind.Kind.{Kind}
use Rattle.dnw_data.specs.declared.kind.Kind.TheVariants.{Counted, LongCounted, Name, Octets, Shaped}
use Rattle.dnw_data.specs.declared.kind.Kind.TheVariants as kinds
use Rattle.dnw_data.specs.declared.kind.ListKind.TheVariants as lists
use Rattle.dnw_data.specs.declared.kind.NameForm.{NameForm}
use Rattle.dnw_data.specs.Fields.{own_at, size_at}
use Rattle.dnw_data.specs.Values.{own_fault, own_size}
use Rattle.dnw_data.specs.Walks.{IsAtEnd}
use Rattle.dnw_record.specs.DataPieces.{ArePiecesOf, HasPieces, IsPieceOf, DataPiece, name_piece, octets_of, octets_piece, piece_octets}
use Rattle.dnw_record.specs.DataCopies.{TakesOwnPiece, TakesPiece, TakesPieces, alone}
use Rattle.dnw_record.specs.PieceLaws.{DataHaveFields}
use Rattle.dnw_record.specs.Inside.Copying.{IsNoName}
use Rattle.dnw_data.proofs.Shaping.{long_same, shape_same}
use Rattle.dnw_data.proofs.Taking.{moves_on}
use Rattle.dnw_record.proofs.Copying.{take_values, takes_value}

-- ---- sizes

-- the octets of a field alone, and what follows them, say as well how many it takes
all_left : (left own rest : List ℕ) → own ≡ take (length left) left → rest ≡ [] → length (own ++ rest) ≡ length left
all_left left own rest is none =
    ap (λ r. length (own ++ r)) none ∙ ap length (append-nil own) ∙ ap length (is ∙ take-length left)

pub same_size : (kind : Kind) → IsNoName kind → (left own rest : List ℕ) → own ≡ take (own_size kind left) left → own_size kind left ≤ length left
    → (own_size kind left ≡ length left → rest ≡ []) → own_size kind (own ++ rest) ≡ own_size kind left
same_size (Name form) other left own rest is le end = absurd other
same_size (Counted shown) other [] own rest is le end = absurd (omega (arith, le))
same_size (Counted shown) other (x ∷ xs) own rest is le end =
    let more : 1 + x ≡ suc x = omega arith in
    let own_is : own ≡ x ∷ take x xs = is ∙ ap (λ n. take n (x ∷ xs)) more in
    ap (λ (o : List ℕ). 1 + slice_index (o ++ rest) 0) own_is
same_size (LongCounted shown) other left own rest is le end = long_same left own rest is le
same_size (Shaped shape) other left own rest is le end = shape_same shape left own rest is le (λ _ all. end all)
same_size (Octets shown) other left own rest is le end = all_left left own rest is (end refl)
same_size (kinds.List lists.Texts) other left own rest is le end =
    let all : own_size (kinds.List lists.Texts) left ≡ length left = omega (arith, le) in
    let none = end all in
    ap (max 1) (all_left left own rest (is ∙ ap (λ n. take n left) all) none)
same_size (kinds.List list) other left own rest is le end = all_left left own rest is (end refl)
same_size kind other left own rest is le end = refl

-- ---- pieces that are read

-- a field other than a name, of these octets
own_is_lem : (kind : Kind) → IsNoName kind → (d after : Decoder) (piece : DataPiece) (rest : List ℕ) → TakesOwnPiece kind d piece after
    → (after.index ≡ length d.bytes → rest ≡ [])
    → (length (own_at kind d) ≡ own_size kind (own_at kind d ++ rest)) × (own_fault kind (own_at kind d) ≡ None) × (piece ≡ octets_piece (own_at kind d))
own_is_lem kind other d after piece rest (enough, right, is, there) end =
    let size = own_size kind (drop d.index d.bytes) in
    let index : after.index ≡ d.index + size = ap (λ (x : Decoder). x.index) there in
    let left : length (drop d.index d.bytes) ≡ length d.bytes - d.index = length-drop d.index d.bytes in
    let many : d.index + size - d.index ≡ size = omega arith in
    let own : own_at kind d ≡ take size (drop d.index d.bytes) = ap (λ n. take n (drop d.index d.bytes)) many in
    let same = same_size kind other (drop d.index d.bytes) (own_at kind d) rest own (omega (arith, enough, left))
    (λ (all : own_size kind (drop d.index d.bytes) ≡ length (drop d.index d.bytes)). end (omega (arith, index, all, left, enough))) in
    (omega (arith, length-between d.bytes d.index (d.index + size) enough, same), right, is)

is_piece : (kind : Kind) (d after : Decoder) (piece : DataPiece) (rest : List ℕ) → TakesPiece kind d piece after
    → (after.index ≡ length d.bytes → rest ≡ []) → IsPieceOf kind piece rest
is_piece (Name form) d after piece rest (labels, k, takes, is) end =
    subst (λ p. IsPieceOf (Name form) p rest) (sym is) (refl, NameAt_labels takes.name)
is_piece kind d after piece rest takes end =
    let (size, right, is) = own_is_lem kind tt d after piece rest takes end in
    subst (λ p. IsPieceOf kind p rest) (sym is) (size, right)

-- after the end there are no octets
none_after : (kinds : List Kind) (d : Decoder) (pieces : List DataPiece) → TakesPieces kinds d pieces → IsAtEnd d → octets_of pieces ≡ []
none_after [] d [] takes end = refl
none_after [] d (piece ∷ pieces) takes end = absurd takes
none_after (kind ∷ kinds) d [] takes end = absurd takes
none_after (Name form ∷ kinds) d (piece ∷ pieces) (after, (labels, k, name, is), more) end =
    let (later, inside) = Reads_own name.name.reads in
    absurd (omega (arith, later, inside, end))
none_after (kind ∷ kinds) d (piece ∷ pieces) (after, (enough, right, is, there), more) end =
    let index : after.index ≡ d.index + size_at kind d = ap (λ (x : Decoder). x.index) there in
    let still : IsAtEnd after = omega (arith, index, enough, end, ap (λ (x : Decoder). length x.bytes) there) in
    let none : own_at kind d ≡ [] = nil_from_length (own_at kind d) (omega (arith, end, enough, length-between d.bytes d.index (d.index + size_at kind d) enough)) in
    ap (λ p. piece_octets p ++ octets_of pieces) is ∙ ap (λ (x : List ℕ). x ++ octets_of pieces) none ∙ none_after kinds after pieces more still

-- the pieces that are read are fields of their kinds
pub are_pieces : (kinds : List Kind) (d : Decoder) (pieces : List DataPiece) → TakesPieces kinds d pieces → ArePiecesOf kinds pieces
are_pieces [] d [] takes = tt
are_pieces [] d (piece ∷ pieces) takes = absurd takes
are_pieces (kind ∷ kinds) d [] takes = absurd takes
are_pieces (kind ∷ kinds) d (piece ∷ pieces) (after, one, more) =
    let (later, same) = moves_on kind d after _ (takes_value kind d after piece one) in
    let end : after.index ≡ length d.bytes → octets_of pieces ≡ [] = λ at. none_after kinds after pieces more (at ∙ ap length (sym same)) in
    (is_piece kind d after piece (octets_of pieces) one end, are_pieces kinds after pieces more)

-- ---- pieces are read again

-- the decoder at what follows this front
abbrev pub behind : List ℕ → List ℕ → Decoder
behind front rest = record { bytes = front ++ rest; index = length front }

pub name_again : (form : NameForm) (labels : List (List ℕ)) (front rest : List ℕ) → AreLabels labels
    → TakesPiece (Name form) (behind front (wire labels ++ rest)) (name_piece form labels) (behind (front ++ wire labels) rest)
name_again form labels front rest are =
    let b = front ++ (wire labels ++ rest) in
    let end : length (front ++ wire labels) ≡ length front + encoded_size labels = length-append front (wire labels) ∙ ap (λ n. length front + n) (length_wire labels) in
    let reads = Reads_wire b front rest labels (length front) (length front) (length (front ++ wire labels)) refl end refl are.each in
    let moved : behind (front ++ wire labels) rest ≡ record { bytes = b; index = length (front ++ wire labels) } =
    ap (λ (x : List ℕ). record { bytes = x; index = length (front ++ wire labels) }) (append_assoc front (wire labels) rest) in
    (labels, 0, record { end = length (front ++ wire labels); name = record { reads = reads; fits = are.fit }; moved = moved }, refl)

pub own_again : (kind : Kind) (own front rest : List ℕ) → length own ≡ own_size kind (own ++ rest) → own_fault kind own ≡ None
    → TakesOwnPiece kind (behind front (own ++ rest)) (octets_piece own) (behind (front ++ own) rest)
own_again kind own front rest size right =
    let b = front ++ (own ++ rest) in
    let d = behind front (own ++ rest) in
    let left : drop (length front) b ≡ own ++ rest = drop_at front (own ++ rest) (length front) refl in
    let many : size_at kind d ≡ length own = ap (own_size kind) left ∙ sym size in
    let total : length b ≡ length front + (length own + length rest) = length-append front (own ++ rest) ∙ ap (λ n. length front + n) (length-append own rest) in
    let is : own_at kind d ≡ own = slice_range_middle front own rest (length front) (length front + size_at kind d) refl (ap (λ n. length front + n) many) in
    let next : length (front ++ own) ≡ length front + size_at kind d = length-append front own ∙ ap (λ n. length front + n) (sym many) in (
      omega (arith, many, total),
      ap (own_fault kind) is ∙ right,
      ap octets_piece (sym is),
      ap (λ (x : List ℕ). record { bytes = x; index = length (front ++ own) }) (append_assoc front own rest) ∙ ap (λ n. record { bytes = b; index = n }) next,
    )

pub piece_again : (kind : Kind) (piece : DataPiece) (front rest : List ℕ) → IsPieceOf kind piece rest
    → TakesPiece kind (behind front (piece_octets piece ++ rest)) piece (behind (front ++ piece_octets piece) rest)
piece_again (Name form) (name_piece own labels) front rest (is, are) =
    subst (λ f. TakesPiece (Name form) (behind front (wire labels ++ rest)) (name_piece f labels) (behind (front ++ wire labels) rest)) (sym is) (name_again form labels front rest are)
piece_again (Name form) (octets_piece own) front rest is = absurd is
piece_again kind (name_piece form labels) front rest is = absurd is
piece_again kind (octets_piece own) front rest (size, right) = own_again kind own front rest size right

-- pieces that follow any front are read there, up to the end
pub pieces_again : (kinds : List Kind) (pieces : List DataPiece) (front : List ℕ) → ArePiecesOf kinds pieces → TakesPieces kinds (behind front (octets_of pieces)) pieces
pieces_again [] [] front are = ap length (sym (append-nil front))
pieces_again [] (piece ∷ pieces) front are = absurd are
pieces_again (kind ∷ kinds) [] front are = absurd are
pieces_again (kind ∷ kinds) (piece ∷ pieces) front (one, more) =
    (behind (front ++ piece_octets piece) (octets_of pieces), piece_again kind piece front (octets_of pieces) one, pieces_again kinds pieces (front ++ piece_octets piece) more)

-- ---- in one way

piece_unique : (kind : Kind) (d after after' : Decoder) (piece piece' : DataPiece) → TakesPiece kind d piece after → TakesPiece kind d piece' after'
    → (piece ≡ piece') × (after ≡ after')
piece_unique (Name form) d after after' piece piece' (labels, k, takes, is) (labels', k', takes', is') =
    let (same, there) = TakesName_unique takes takes' in
    (is ∙ ap (name_piece form) same ∙ sym is', there)
piece_unique kind d after after' piece piece' h h' = (h.2 ∙ sym h'.2, h.3 ∙ sym h'.3)

pub pieces_unique : (kinds : List Kind) (d : Decoder) (pieces pieces' : List DataPiece) → TakesPieces kinds d pieces → TakesPieces kinds d pieces' → pieces ≡ pieces'
pieces_unique [] d [] [] h h' = refl
pieces_unique [] d [] (piece' ∷ pieces') h h' = absurd h'
pieces_unique [] d (piece ∷ pieces) pieces' h h' = absurd h
pieces_unique (kind ∷ kinds) d [] pieces' h h' = absurd h
pieces_unique (kind ∷ kinds) d (piece ∷ pieces) [] h h' = absurd h'
pieces_unique (kind ∷ kinds) d (piece ∷ pieces) (piece' ∷ pieces') (after, one, more) (after', one', more') =
    let (same, there) = piece_unique kind d after after' piece piece' one one' in
    let rest = pieces_unique kinds after pieces pieces' more (subst (λ x. TakesPieces kinds x pieces') (sym there) more') in
    ap (λ p. p ∷ pieces) same ∙ ap (λ ps. piece' ∷ ps) rest

-- ---- data that stand alone

pub whole_pieces : (kinds : List Kind) (octets : List ℕ) (pieces : List DataPiece) → HasPieces kinds octets pieces → TakesPieces kinds (alone octets) pieces
whole_pieces kinds octets pieces has = subst (λ o. TakesPieces kinds (alone o) pieces) (sym has.whole) (pieces_again kinds pieces [] has.are)

pub data_have_fields : DataHaveFields
data_have_fields kinds octets pieces has =
    let takes = whole_pieces kinds octets pieces has in
    (take_values 0 kinds (alone octets) pieces takes, λ others h. pieces_unique kinds (alone octets) others pieces (whole_pieces kinds octets others h) takes)
