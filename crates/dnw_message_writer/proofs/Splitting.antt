-- Data that are taken apart, field by field.
use Rattle.std.proofs.Common.{◌≡◌, ◌≢◌, ℕ, ◌+◌, ◌-◌, ◌==◌, ◌<◌, ◌≤◌, Bool, true, false, None, List, [], ◌∷◌, ◌++◌, length, take, drop, inl, inr, refl, sym, ap, ◌∙◌, subst, length-drop, arith}
use Rattle.std.specs.Prelude.{◌&&◌, ◌||◌, nat_le, not, slice_index}
use Rattle.std.specs.List.{flat_map}
use Rattle.std.proofs.lemmas.Bool.{cases_Bool, eqb-true, leb-true}
use Rattle.std.proofs.lemmas.List.{append-nil, drop-drop, drop_all, drop_at, length-append, length-take-le, take-append-drop, take_all, take_at}
use Rattle.std.proofs.lemmas.Option.{none-some}
use Rattle.dnw_base.specs.Decoder.{Decoder}
use Rattle.dnw_base.specs.declared.error.DecodeError.{DecodeError}
use Rattle.dnw_base.specs.Names.{AreLabels, wire}
use Rattle.dnw_data.specs.declared.kind.Kind.{Kind}
use Rattle.dnw_data.specs.declared.kind.Kind.TheVariants as kinds
use Rattle.dnw_data.specs.declared.kind.NameForm.{NameForm}
use Rattle.dnw_data.specs.declared.kind.NameForm.TheVariants.{Compressible, Lowered, Plain}
use Rattle.dnw_data.specs.Fields.{FailsField, TakesField, own_at}
use Rattle.dnw_data.specs.Table.{Row, a6, a6_fields, base64, fields_elsewhere, fields_in, fields_in_internet, fields_of, fields_of_some, is_internet_type, is_like_internet, lowered_name, may_lack_data, table}
use Rattle.dnw_data.specs.Values.{FieldValue, own_fault, own_size}
use Rattle.dnw_data.proofs.Rows.{fields_hold}
use Rattle.dnw_name_read.proofs.Takes.{TakesName_unique}
use Rattle.dnw_record.specs.DataPieces.{ArePiecesOf, DataPiece, IsData, IsPieceOf, name_piece, octets_of, octets_piece, piece_octets}
use Rattle.dnw_record.specs.DataCopies.{alone}
use Rattle.dnw_record.specs.Inside.Copying.{IsNoName}
use Rattle.dnw_record.proofs.Pieces.{name_again}
use Rattle.dnw_message_writer.specs.Data.{AreOfData, StartsNoName, are_to_compress, is_to_compress, names_among, names_to_compress, whole_octets}
use Rattle.dnw_message_writer.specs.Inside.Splitting.{HasField, HasNoField, HasSigner, IsPlain, is_usual_name, last_compressed, most_pieces}
use Rattle.dnw_message_writer.specs.declared.pieces.Piece.{Piece}

-- ---- the first field

rest_of : (a rest : List ℕ) (octets : List ℕ) → octets ≡ a ++ rest → drop (length a) octets ≡ rest
rest_of a rest octets is = ap (drop (length a)) is ∙ drop_at a rest (length a) refl

pub name_field : (form : NameForm) (ls : List (List ℕ)) (octets own : List ℕ) → AreLabels ls → own ≡ wire ls
    → octets ≡ wire ls ++ drop (length (wire ls)) octets → HasField (kinds.Name form) octets own
name_field form ls octets own are own_is is =
    (name_piece form ls, own_is, rw own_is is, (refl, are))

pub no_name_field : (form : NameForm) (octets : List ℕ) → StartsNoName octets → HasNoField (kinds.Name form) octets
no_name_field form octets none (name_piece own ls) rest is (same, are) = none ls rest are is
no_name_field form octets none (octets_piece own) rest is wrong = wrong

own_piece : (kind : Kind) (own rest : List ℕ) → IsNoName kind → length own ≡ own_size kind (own ++ rest) → own_fault kind own ≡ None
    → IsPieceOf kind (octets_piece own) rest
own_piece (kinds.Name form) own rest other size right = absurd other
own_piece kind own rest other size right = (size, right)

piece_own : (kind : Kind) (piece : DataPiece) (rest : List ℕ) → IsNoName kind → IsPieceOf kind piece rest
    → (piece ≡ octets_piece (piece_octets piece)) × (length (piece_octets piece) ≡ own_size kind (piece_octets piece ++ rest)) × (own_fault kind (piece_octets piece) ≡ None)
piece_own (kinds.Name form) piece rest other is = absurd other
piece_own kind (name_piece form ls) rest other is = absurd is
piece_own kind (octets_piece own) rest other (size, right) = (refl, size, right)

pub has_own : (kind : Kind) (octets : List ℕ) (v : FieldValue) (after : Decoder) → IsNoName kind → TakesField kind (alone octets) v after
    → HasField kind octets (take after.index octets)
has_own (kinds.Name form) octets v after other takes = absurd other
has_own kind octets v after other (enough, right, is, there) =
    let n = own_size kind octets in
    let at : after.index ≡ n = omega (arith, ap (λ (x : Decoder). x.index) there) in
    let many : 0 + n - 0 ≡ n = omega arith in
    let own = take n octets in
    let own_is : own_at kind (alone octets) ≡ own = ap (λ k. take k octets) many in
    let size : length own ≡ n = length-take-le n octets (omega (arith, enough)) in
    let whole : own ++ drop n octets ≡ octets = take-append-drop n octets in
    let split : octets ≡ own ++ drop (length own) octets = sym (ap (λ k. own ++ drop k octets) size ∙ whole) in
    let piece : IsPieceOf kind (octets_piece own) (drop (length own) octets) =
    own_piece kind own (drop (length own) octets) tt (size ∙ ap (own_size kind) split) (ap (own_fault kind) (sym own_is) ∙ right) in
    subst (λ k. HasField kind octets (take k octets)) (sym at) (octets_piece own, refl, split, piece)

pub has_no_own : (kind : Kind) (octets : List ℕ) (e : DecodeError) → IsNoName kind → FailsField kind (alone octets) e → HasNoField kind octets
has_no_own (kinds.Name form) octets e other fails = absurd other
has_no_own kind octets e other (inl (few, is)) = λ piece rest split p.
    let (own, size, right) = piece_own kind piece rest tt p in
    few (omega (arith, size, ap (own_size kind) split, ap length split, length-append (piece_octets piece) rest))
has_no_own kind octets e other (inr (enough, wrong)) = λ piece rest split p.
    let (own, size, right) = piece_own kind piece rest tt p in
    let n : own_size kind octets ≡ length (piece_octets piece) = ap (own_size kind) split ∙ sym size in
    let many : 0 + own_size kind octets - 0 ≡ length (piece_octets piece) = omega (arith, n) in
    let same : own_at kind (alone octets) ≡ piece_octets piece =
    ap (λ k. take k octets) many ∙ (ap (take (length (piece_octets piece))) split ∙ take_at (piece_octets piece) rest (length (piece_octets piece)) refl) in
    none-some e (sym (ap (own_fault kind) same ∙ right) ∙ wrong)

-- a field that may be any octets of its size
pub plain_field : (kind : Kind) (octets : List ℕ) (n : ℕ) → IsNoName kind → (n ≡ own_size kind octets) × IsPlain kind → n ≤ length octets
    → HasField kind octets (take n octets)
plain_field kind octets n other (n_is, plain) enough =
    let own = take n octets in
    let size : length own ≡ n = length-take-le n octets enough in
    let whole : own ++ drop n octets ≡ octets = take-append-drop n octets in
    let split : octets ≡ own ++ drop (length own) octets = sym (ap (λ k. own ++ drop k octets) size ∙ whole) in
    let piece : IsPieceOf kind (octets_piece own) (drop (length own) octets) =
    own_piece kind own (drop (length own) octets) other (size ∙ (n_is ∙ ap (own_size kind) split)) (plain own) in
    (octets_piece own, refl, split, piece)

-- in one way
same_rest : (kind : Kind) (p q : DataPiece) (rest others octets : List ℕ) → octets ≡ piece_octets p ++ rest → octets ≡ piece_octets q ++ others
    → IsPieceOf kind p rest → IsPieceOf kind q others → rest ≡ others
same_rest (kinds.Name form) (octets_piece own) q rest others octets is is' h h' = absurd h
same_rest (kinds.Name form) (name_piece own ls) (octets_piece own') rest others octets is is' h h' = absurd h'
same_rest (kinds.Name form) (name_piece own ls) (name_piece own' ls') rest others octets is is' (f, are) (f', are') =
    let (l, k, takes, named) = name_again form ls [] rest are in
    let (l', k', takes', named') = name_again form ls' [] others are' in
    let there : wire ls' ++ others ≡ wire ls ++ rest = sym is' ∙ is in
    let found : l ≡ l' = (TakesName_unique takes (rw there at takes')).0 in
    let first : ls ≡ l = cc in
    let second : ls' ≡ l' = cc in
    let same : ls ≡ ls' = first ∙ (found ∙ sym second) in
    sym (rest_of (wire ls) rest octets is) ∙ (ap (λ n. drop (length (wire n)) octets) same ∙ rest_of (wire ls') others octets is')
same_rest kind p q rest others octets is is' h h' =
    let (own, size, right) = piece_own kind p rest tt h in
    let (own', size', right') = piece_own kind q others tt h' in
    let n : length (piece_octets p) ≡ length (piece_octets q) = size ∙ (ap (own_size kind) (sym is ∙ is') ∙ sym size') in
    sym (rest_of (piece_octets p) rest octets is) ∙ (ap (λ k. drop k octets) n ∙ rest_of (piece_octets q) others octets is')

-- ---- data

pub data_first : (kind : Kind) (others : List Kind) (octets own : List ℕ) → HasField kind octets own → IsData others (drop (length own) octets)
    → IsData (kind ∷ others) octets
data_first kind others octets own (piece, own_is, split, is) (pieces, has) =
    let rest = drop (length own) octets in (
      piece ∷ pieces,
      record { are = (subst (λ r. IsPieceOf kind piece r) has.whole is, has.are); whole = split ∙ (ap (λ r. own ++ r) has.whole ∙ ap (λ o. o ++ octets_of pieces) own_is) },
    )

pub data_rest : (kind : Kind) (others : List Kind) (octets own : List ℕ) → HasField kind octets own → IsData (kind ∷ others) octets
    → IsData others (drop (length own) octets)
data_rest kind others octets own first ([], has) = absurd has.are
data_rest kind others octets own (piece, own_is, split, is) (q ∷ pieces, has) =
    let same = same_rest kind piece q (drop (length own) octets) (octets_of pieces) octets (split ∙ ap (λ o. o ++ drop (length own) octets) own_is) has.whole is has.are.0 in
    (pieces, record { are = has.are.1; whole = same })

pub data_none : (kind : Kind) (others : List Kind) (octets : List ℕ) → HasNoField kind octets → IsData (kind ∷ others) octets → ⊥
data_none kind others octets none ([], has) = has.are
data_none kind others octets none (piece ∷ pieces, has) = none piece (octets_of pieces) has.whole has.are.0

pub data_empty : (octets : List ℕ) → octets ≡ [] → IsData [] octets
data_empty octets is = ([], record { are = tt; whole = is })

pub data_over : (octets : List ℕ) → IsData [] octets → octets ≡ []
data_over octets ([], has) = has.whole
data_over octets (piece ∷ pieces, has) = absurd has.are

-- ---- pieces

-- the names of the fields that follow one that is none to compress
pub passed : (at : ℕ) (kind : Kind) (piece : DataPiece) (fields : List DataPiece) (rest : List ℕ) → IsPieceOf kind piece rest → is_to_compress kind ≡ false
    → names_to_compress at (piece ∷ fields) ≡ names_to_compress (at + length (piece_octets piece)) fields
passed at kind (octets_piece own) fields rest is other = refl
passed at (kinds.Name Compressible) (name_piece form ls) fields rest is other = absurd cc
passed at (kinds.Name Lowered) (name_piece form ls) fields rest (same, are) other = rw same refl
passed at (kinds.Name Plain) (name_piece form ls) fields rest (same, are) other = rw same refl
passed at kind (name_piece form ls) fields rest is other = absurd is

no_names : (ks : List Kind) (fields : List DataPiece) (at : ℕ) → ArePiecesOf ks fields → are_to_compress ks ≡ false → names_to_compress at fields ≡ []
no_names [] [] at are none = refl
no_names [] (piece ∷ fields) at are none = absurd are
no_names (kind ∷ ks) [] at are none = absurd are
no_names (kind ∷ ks) (piece ∷ fields) at (one, more) none = elim (cases_Bool (is_to_compress kind)) [
  | inl found ↦ let wrong : true ≡ false = rw found at none in absurd cc
  | inr other ↦ passed at kind piece fields (octets_of fields) one other ∙ no_names ks fields (at + length (piece_octets piece)) more (rw other at none)
]

pub of_all : (ks : List Kind) (octets : List ℕ) (xs : List Piece) → are_to_compress ks ≡ false → IsData ks octets → flat_map whole_octets xs ≡ octets
    → ((at : ℕ) → names_among at xs ≡ []) → AreOfData ks octets xs
of_all ks octets xs none (fields, has) whole names =
    (fields, has, record { whole = whole ∙ has.whole; names = λ at. names at ∙ sym (no_names ks fields at has.are none) })

-- a field that is no name to compress is a piece of octets
pub of_own : (kind : Kind) (ks : List Kind) (octets own : List ℕ) (x : Piece) (xs : List Piece) → is_to_compress kind ≡ false → HasField kind octets own
    → whole_octets x ≡ own → ((at : ℕ) → names_among at (x ∷ xs) ≡ names_among (at + length own) xs) → AreOfData ks (drop (length own) octets) xs
    → AreOfData (kind ∷ ks) octets (x ∷ xs)
of_own kind ks octets own x xs other (piece, own_is, split, is) x_is names (fields, has, of) =
    let rest = drop (length own) octets in (
      piece ∷ fields,
      record { are = (subst (λ r. IsPieceOf kind piece r) has.whole is, has.are); whole = split ∙ (ap (λ r. own ++ r) has.whole ∙ ap (λ o. o ++ octets_of fields) own_is) },
      record {
        whole = ap (λ o. o ++ flat_map whole_octets xs) (x_is ∙ own_is) ∙ ap (λ o. piece_octets piece ++ o) of.whole;
        names = λ at. names at ∙ (of.names (at + length own) ∙ (ap (λ o. names_to_compress (at + length o) fields) own_is ∙ sym (passed at kind piece fields rest is other)));
      },
    )

pub compress_name : (kind : Kind) → is_to_compress kind ≡ true → kind ≡ kinds.Name Compressible
compress_name (kinds.Name Compressible) is = refl
compress_name (kinds.Name Lowered) is = absurd cc
compress_name (kinds.Name Plain) is = absurd cc
compress_name kind is = absurd cc

-- a name to compress is one
pub of_name : (kind : Kind) (ks : List Kind) (octets : List ℕ) (ls : List (List ℕ)) (x : Piece) (xs : List Piece) → is_to_compress kind ≡ true → AreLabels ls
    → octets ≡ wire ls ++ drop (length (wire ls)) octets → whole_octets x ≡ wire ls
    → ((at : ℕ) → names_among at (x ∷ xs) ≡ (at, ls) ∷ names_among (at + length (wire ls)) xs) → AreOfData ks (drop (length (wire ls)) octets) xs
    → AreOfData (kind ∷ ks) octets (x ∷ xs)
of_name kind ks octets ls x xs is are split x_is names (fields, has, of) =
    subst (λ k. AreOfData (k ∷ ks) octets (x ∷ xs)) (sym (compress_name kind is)) (
      name_piece Compressible ls ∷ fields,
      record { are = ((refl, are), has.are); whole = split ∙ ap (λ r. wire ls ++ r) has.whole },
      record {
        whole = ap (λ o. o ++ flat_map whole_octets xs) x_is ∙ ap (λ o. wire ls ++ o) of.whole;
        names = λ at. names at ∙ ap (λ more. (at, ls) ∷ more) (of.names (at + length (wire ls)));
      },
    )

-- a field alone is a piece
no_pieces : (octets : List ℕ) → octets ≡ [] → AreOfData [] octets []
no_pieces octets is = ([], record { are = tt; whole = is }, record { whole = refl; names = λ at. refl })

pub name_alone : (kind : Kind) (octets : List ℕ) (ls : List (List ℕ)) (x : Piece) → is_to_compress kind ≡ true → AreLabels ls
    → octets ≡ wire ls ++ drop (length (wire ls)) octets → length (wire ls) ≡ length octets → whole_octets x ≡ wire ls
    → ((at : ℕ) → names_among at (x ∷ []) ≡ (at, ls) ∷ []) → AreOfData (kind ∷ []) octets (x ∷ [])
name_alone kind octets ls x is are split size x_is names =
    of_name kind [] octets ls x [] is are split x_is names (no_pieces _ (drop_all (length (wire ls)) octets (omega (arith, size))))

pub own_alone : (kind : Kind) (octets own : List ℕ) (x : Piece) → is_to_compress kind ≡ false → HasField kind octets own → length own ≡ length octets
    → whole_octets x ≡ own → ((at : ℕ) → names_among at (x ∷ []) ≡ []) → AreOfData (kind ∷ []) octets (x ∷ [])
own_alone kind octets own x other has size x_is names =
    of_own kind [] octets own x [] other has x_is names (no_pieces _ (drop_all (length own) octets (omega (arith, size))))

-- what follows a name is data of the other kinds
pub data_after : (kind : Kind) (ks : List Kind) (octets : List ℕ) (ls : List (List ℕ)) → is_to_compress kind ≡ true → AreLabels ls
    → octets ≡ wire ls ++ drop (length (wire ls)) octets → IsData (kind ∷ ks) octets → IsData ks (drop (length (wire ls)) octets)
data_after kind ks octets ls is are split h =
    data_rest kind ks octets (wire ls)
    (subst (λ k. HasField k octets (wire ls)) (sym (compress_name kind is)) (name_field Compressible ls octets (wire ls) are refl split)) h

pub none_after : (kind : Kind) (ks : List Kind) (octets : List ℕ) → is_to_compress kind ≡ true → StartsNoName octets → IsData (kind ∷ ks) octets → ⊥
none_after kind ks octets is none h =
    data_none kind ks octets (subst (λ k. HasNoField k octets) (sym (compress_name kind is)) (no_name_field Compressible octets none)) h

-- ---- few pieces

pub some_pieces : (ks : List Kind) → 1 ≤ most_pieces ks
some_pieces [] = omega arith
some_pieces (kind ∷ others) = elim (cases_Bool (are_to_compress (kind ∷ others))) [
  | inl found ↦ rw found (omega arith)
  | inr none ↦ rw none (omega arith)
]

pub more_pieces : (ks : List Kind) (kind : Kind) (others : List Kind) → ks ≡ kind ∷ others → are_to_compress ks ≡ true → most_pieces ks ≡ 1 + most_pieces others
more_pieces ks kind others split is =
    let found : are_to_compress (kind ∷ others) ≡ true = ap are_to_compress (sym split) ∙ is in
    ap most_pieces split ∙ rw found refl

abbrev few : List Kind → Bool
few ks = nat_le (most_pieces ks) 3

few_a6 : (prefix : ℕ) → few (a6_fields prefix) ≡ true
few_a6 prefix = elim (cases_Bool (prefix == 0)) [ inl none ↦ rw none refl | inr some ↦ rw some refl ]

pub few_pieces : (class code : ℕ) (octets : List ℕ) → most_pieces (fields_of class code octets) ≤ 3
few_pieces class code octets =
    leb-true (most_pieces (fields_of class code octets)) 3
    (fields_hold few (record { none = refl; octets = refl; chaos = refl; six = few_a6; rows = refl }) class code octets)

-- ---- late types

abbrev late : List Row → Bool
late [] = true
late (row ∷ rows) = (nat_le row.code last_compressed || not (are_to_compress row.fields)) && late rows

late_in : (rows : List Row) (code : ℕ) → late rows ≡ true → last_compressed < code → are_to_compress (fields_in rows code) ≡ false
late_in [] code are above = refl
late_in (row ∷ rows) code are above = elim (cases_Bool (row.code == code)) [
  | inl here ↦
      let is : fields_in (row ∷ rows) code ≡ row.fields = rw (here, fields_in) refl in
      ap are_to_compress is ∙ late_row row rows (omega (arith, eqb-true row.code code here)) are
  | inr there ↦
      let is : fields_in (row ∷ rows) code ≡ fields_in rows code = rw (there, fields_in) refl in
      ap are_to_compress is ∙ late_in rows code (late_rest row rows are) above
]
  where
    late_row : (row : Row) (rows : List Row) → last_compressed < row.code → late (row ∷ rows) ≡ true → are_to_compress row.fields ≡ false
    late_row row rows above are = elim (cases_Bool (are_to_compress row.fields)) [
      | inr none ↦ none
      | inl found ↦ elim (cases_Bool (nat_le row.code last_compressed)) [
        | inl early ↦ absurd (omega (arith, above, leb-true row.code last_compressed early))
        | inr other ↦ let wrong : false ≡ true = rw (other, found) at are in absurd cc
      ]
    ]

    late_rest : (row : Row) (rows : List Row) → late (row ∷ rows) ≡ true → late rows ≡ true
    late_rest row rows are = elim (cases_Bool (nat_le row.code last_compressed || not (are_to_compress row.fields))) [
      | inl early ↦ rw early at are
      | inr other ↦ let wrong : false ≡ true = rw other at are in absurd cc
    ]

late_internet : (code : ℕ) (octets : List ℕ) → last_compressed < code → are_to_compress (fields_in_internet code octets) ≡ false
late_internet code octets above = elim (cases_Bool (code == a6)) [
  | inl is ↦ rw is (late_a6 (slice_index octets 0))
  | inr other ↦ rw other (late_in table code refl above)
]
  where
    late_a6 : (prefix : ℕ) → are_to_compress (a6_fields prefix) ≡ false
    late_a6 prefix = elim (cases_Bool (prefix == 0)) [
      | inl none ↦ rw none refl
      | inr some ↦ rw some refl
    ]

late_elsewhere : (class code : ℕ) → last_compressed < code → are_to_compress (fields_elsewhere class code) ≡ false
late_elsewhere class code above = elim (cases_Bool (code == 1)) [
  | inl is ↦ absurd (omega (arith, above, eqb-true code 1 is))
  | inr other ↦ elim (cases_Bool (class == 3)) [
    | inl chaos ↦ rw (chaos, other) refl
    | inr class_is ↦ rw class_is refl
  ]
]

late_some : (class code : ℕ) (octets : List ℕ) → last_compressed < code → are_to_compress (fields_of_some class code octets) ≡ false
late_some class code octets above = elim (cases_Bool (is_like_internet class || not (is_internet_type code))) [
  | inl like ↦ rw like (late_internet code octets above)
  | inr other ↦ rw other (late_elsewhere class code above)
]

-- no name of a type after MX may be compressed
pub late_types : (class code : ℕ) (octets : List ℕ) → last_compressed < code → are_to_compress (fields_of class code octets) ≡ false
unfolding fields_of
late_types class code [] above = elim (cases_Bool (may_lack_data class code)) [
  | inl may ↦ rw may refl
  | inr must ↦ rw must (late_some class code [] above)
]
late_types class code (octet ∷ octets) above = late_some class code (octet ∷ octets) above

-- ---- usual types

some_data : (class code : ℕ) (octets : List ℕ) → octets ≢ [] → fields_of class code octets ≡ fields_of_some class code octets
unfolding fields_of
some_data class code [] some = absurd (some refl)
some_data class code (octet ∷ octets) some = refl

in_all_classes : (class code : ℕ) (octets : List ℕ) → is_internet_type code ≡ false → fields_of_some class code octets ≡ fields_in_internet code octets
in_all_classes class code octets every = elim (cases_Bool (is_like_internet class)) [ inl like ↦ rw like refl | inr other ↦ rw (other, every) refl ]

pub named_alone : (class code : ℕ) (octets : List ℕ) → is_usual_name code ≡ true → octets ≢ [] → fields_of class code octets ≡ kinds.Name Compressible ∷ []
unfolding is_internet_type
named_alone class code octets is some = some_data class code octets some ∙ elim (cases_Bool (code == 2)) [
  | inl two ↦ ap (λ n. fields_of_some class n octets) (eqb-true code 2 two) ∙ in_all_classes class 2 octets refl
  | inr not_two ↦ elim (cases_Bool (code == 5)) [
    | inl five ↦ ap (λ n. fields_of_some class n octets) (eqb-true code 5 five) ∙ in_all_classes class 5 octets refl
    | inr not_five ↦
        let twelve : (code == 12) ≡ true = rw (not_two, not_five) at is in
        ap (λ n. fields_of_some class n octets) (eqb-true code 12 twelve) ∙ in_all_classes class 12 octets refl
  ]
]

pub four_alone : (class code : ℕ) (octets : List ℕ) → class ≡ 1 → code ≡ 1 → octets ≢ [] → fields_of class code octets ≡ kinds.Ipv4 ∷ []
four_alone class code octets internet is some = ap (λ n. fields_of n code octets) internet ∙ ap (λ n. fields_of 1 n octets) is ∙ some_data 1 1 octets some

pub six_alone : (class code : ℕ) (octets : List ℕ) → class ≡ 1 → code ≡ 28 → octets ≢ [] → fields_of class code octets ≡ kinds.Ipv6 ∷ []
six_alone class code octets internet is some = ap (λ n. fields_of n code octets) internet ∙ ap (λ n. fields_of 1 n octets) is ∙ some_data 1 28 octets some

-- ---- signatures

-- a field of a fixed size at an offset, before others
fixed_at : (kind : Kind) (n : ℕ) (others : List Kind) (octets : List ℕ) (p : ℕ) → IsNoName kind → (n ≡ own_size kind (drop p octets)) × IsPlain kind
    → p + n ≤ length octets → IsData others (drop (p + n) octets) → IsData (kind ∷ others) (drop p octets)
fixed_at kind n others octets p other plain enough more =
    let left = drop p octets in
    let inside : n ≤ length left = omega (arith, enough, length-drop p octets) in
    let rest : drop (length (take n left)) left ≡ drop (p + n) octets = ap (λ k. drop k left) (length-take-le n left inside) ∙ drop-drop n p octets in
    data_first kind others left (take n left) (plain_field kind left n other plain inside) (rw rest more)

abbrev signature_fields : List Kind
signature_fields = kinds.TypeCode ∷ kinds.U8 ∷ kinds.U8 ∷ kinds.U32 ∷ kinds.Time ∷ kinds.Time ∷ kinds.U16 ∷ lowered_name ∷ base64 ∷ []

signature_data : (octets : List ℕ) (ls : List (List ℕ)) → 18 ≤ length octets → AreLabels ls
    → drop 18 octets ≡ wire ls ++ drop (length (wire ls)) (drop 18 octets) → IsData signature_fields octets
signature_data octets ls long are split =
    let rest = drop (length (wire ls)) (drop 18 octets) in
    let own = take (length rest) rest in
    let whole : length own ≡ length rest = length-take-le (length rest) rest (omega arith) in
    let last : IsData (base64 ∷ []) rest =
    data_first base64 [] rest own (plain_field base64 rest (length rest) tt (refl, λ o. refl) (omega arith)) (data_empty _ (drop_all (length own) rest (omega (arith, whole)))) in
    let signer : IsData (lowered_name ∷ base64 ∷ []) (drop 18 octets) =
    data_first lowered_name (base64 ∷ []) (drop 18 octets) (wire ls) (name_field Lowered ls (drop 18 octets) (wire ls) are refl split) last in
    fixed_at kinds.TypeCode 2 _ octets 0 tt (refl, λ o. refl) (omega (arith, long)) (
    fixed_at kinds.U8 1 _ octets 2 tt (refl, λ o. refl) (omega (arith, long)) (
    fixed_at kinds.U8 1 _ octets 3 tt (refl, λ o. refl) (omega (arith, long)) (
    fixed_at kinds.U32 4 _ octets 4 tt (refl, λ o. refl) (omega (arith, long)) (
    fixed_at kinds.Time 4 _ octets 8 tt (refl, λ o. refl) (omega (arith, long)) (
    fixed_at kinds.Time 4 _ octets 12 tt (refl, λ o. refl) (omega (arith, long)) (
    fixed_at kinds.U16 2 _ octets 16 tt (refl, λ o. refl) (omega (arith, long)) signer
    )
    )
    )
    )
    )
    )

pub signature_alone : (class : ℕ) (octets : List ℕ) (x : Piece) → HasSigner octets → whole_octets x ≡ octets → ((at : ℕ) → names_among at (x ∷ []) ≡ [])
    → AreOfData (fields_of class 46 octets) octets (x ∷ [])
unfolding is_internet_type
signature_alone class octets x has whole names =
    let long = has.long in
    let some : octets ≢ [] = λ is. absurd (omega (arith, long, ap length is)) in
    let fields : fields_of class 46 octets ≡ signature_fields = some_data class 46 octets some ∙ in_all_classes class 46 octets refl in
    let all = take_all (length octets - 18) (drop 18 octets) (omega (arith, length-drop 18 octets)) in
    let there : IsData (fields_of class 46 octets) octets = subst (λ ks. IsData ks octets) (sym fields) (signature_data octets has.signer long has.are (rw all at has.named)) in
    of_all (fields_of class 46 octets) octets (x ∷ []) (late_types class 46 octets (omega arith)) there (append-nil (whole_octets x) ∙ whole) names
