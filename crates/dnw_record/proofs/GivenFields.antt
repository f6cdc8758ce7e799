-- Values of fields are data: the octets of each are read as that value.
use Rattle.std.proofs.Common.{◌≡◌, ℕ, ◌+◌, ◌<◌, ◌≤◌, ◌^◌, ◌/◌, ◌%◌, max, Bool, true, false, ◌&&◌, ◌==◌, ◌||◌, not, None, List, [], ◌∷◌, ◌++◌, length, drop, slice_index, find, refl, sym, ap, ◌∙◌, subst, inl, inr, arith}
use Rattle.std.specs.Prelude.{unwrap_or}
use Rattle.std.specs.Int.{w16, w64, from_be_bytes, to_be_bytes}
use Rattle.std.specs.List.{AllByRecursion, flat_map, list_all}
use Rattle.std.proofs.lemmas.Bool.{and_parts, cases_Bool}
use Rattle.std.proofs.lemmas.List.{append-nil}
use Rattle.std.proofs.lemmas.Nat.{from_be_bytes-to_be_bytes_2, from_be_bytes-to_be_bytes_4, from_be_bytes-to_be_bytes_8}
use Rattle.std.specs.Net.Addr.{octets_of as octets_of_segments}
use Rattle.dnw_base.specs.Names.{wire}
use Rattle.dnw_base.specs.RecordTypes.{type_of_code}
use Rattle.dnw_base.proofs.Wires.{length_wire}
use Rattle.dnw_data.specs.declared.kind.Kind.{Kind}
use Rattle.dnw_data.specs.declared.kind.Kind.TheVariants as kinds
use Rattle.dnw_data.specs.declared.kind.ListKind.{ListKind}
use Rattle.dnw_data.specs.declared.kind.ListKind.TheVariants as lists
use Rattle.dnw_data.specs.Lists.{ItemsValue, list_fault}
use Rattle.dnw_data.specs.Table.{Row, a6, a6_fields, fields_elsewhere, fields_in, fields_in_internet, fields_of, fields_of_some, hex, is_internet_type, is_like_internet, may_lack_data, row, table}
use Rattle.dnw_data.specs.Values.{FieldValue, name, u8, u16, u32, u48, u64, ipv4, ipv6, type_code, time, counted, octets, texts, types, params, items}
use Rattle.dnw_data.specs.Values.{prefixes, names, long_counted, shaped, long_counted_size}
use Rattle.dnw_data.specs.Shapes.{IsShaped, ShapedValue}
use Rattle.dnw_data.specs.declared.kind.Shape.{Shape}
use Rattle.dnw_data.specs.declared.kind.Shape.TheVariants.{Location, Gateway, Relay, HostIdentity, AddressSuffix}
use Rattle.dnw_data.specs.Walks.{FieldsAre}
use Rattle.dnw_data.specs.FieldWires.{IsFieldValue, field_wire}
use Rattle.dnw_data.proofs.Addresses.{octets_length, segments_back}
use Rattle.dnw_data.proofs.Rows.{Alike, alike_fields}
use Rattle.dnw_data.proofs.Shaping.{goes_to_end, long_is, shape_given}
use Rattle.dnw_record.specs.declared.from_fields.FromFieldsError.{FromFieldsError}
use Rattle.dnw_record.specs.DataPieces.{ArePiecesOf, DataPiece, HasPieces, IsData, IsPieceOf, name_piece, octets_of, octets_piece, piece_octets}
use Rattle.dnw_record.specs.DataCopies.{alone}
use Rattle.dnw_record.specs.PieceLaws.{piece_value, piece_values}
use Rattle.dnw_record.specs.GivenFields.{AreFieldsOf, FailsGivenFields, IsFieldOf, front_of}
use Rattle.dnw_record.proofs.Pieces.{data_have_fields}

-- ---- which kinds take all that is left: only the last of a type

abbrev takes_all : Kind → Bool
takes_all (kinds.Octets shown) = true
takes_all (kinds.List kind) = true
takes_all (kinds.Shaped shape) = goes_to_end shape
takes_all kind = false

abbrev takes_all_last : List Kind → Bool
takes_all_last [] = true
takes_all_last (kind ∷ []) = true
takes_all_last (kind ∷ other ∷ others) = not (takes_all kind) && takes_all_last (other ∷ others)

found_last : (f : Row → Bool) (rows : List Row) (none : Row) → list_all (λ r. takes_all_last r.fields) rows ≡ true → takes_all_last none.fields ≡ true
    → takes_all_last (unwrap_or (find f rows) none).fields ≡ true
found_last f [] none all one = one
found_last f (r ∷ rows) none all one =
    let (first, others) = and_parts (takes_all_last r.fields) (list_all (λ r. takes_all_last r.fields) rows) all in
    elim (cases_Bool (f r)) [
      | inl is ↦ rw is first
      | inr other ↦ rw other (found_last f rows none others one)
    ]

rows_last : (code : ℕ) → takes_all_last (fields_in table code) ≡ true
rows_last code = found_last (λ r. r.code == code) table (row code (hex ∷ [])) refl refl

a6_last : (prefix : ℕ) → takes_all_last (a6_fields prefix) ≡ true
a6_last prefix = elim (cases_Bool (prefix == 0)) [
  | inl none ↦ rw none refl
  | inr some ↦ rw some refl
]

internet_last : (code : ℕ) (octets : List ℕ) → takes_all_last (fields_in_internet code octets) ≡ true
internet_last code own = elim (cases_Bool (code == a6)) [
  | inl is ↦ rw is (a6_last (slice_index own 0))
  | inr other ↦ rw other (rows_last code)
]

elsewhere_last : (class code : ℕ) → takes_all_last (fields_elsewhere class code) ≡ true
elsewhere_last class code = elim (cases_Bool (class == 3 && code == 1)) [
  | inl is ↦ rw is refl
  | inr other ↦ rw other refl
]

some_last : (class code : ℕ) (octets : List ℕ) → takes_all_last (fields_of_some class code octets) ≡ true
some_last class code own = elim (cases_Bool (is_like_internet class || not (is_internet_type code))) [
  | inl like ↦ rw like (internet_last code own)
  | inr other ↦ rw other (elsewhere_last class code)
]

table_last : (class code : ℕ) (octets : List ℕ) → takes_all_last (fields_of class code octets) ≡ true
unfolding fields_of
table_last class code [] = elim (cases_Bool (may_lack_data class code)) [
  | inl may ↦ rw may refl
  | inr must ↦ rw must (some_last class code [])
]
table_last class code (x ∷ xs) = some_last class code (x ∷ xs)

-- ---- one field

abbrev piece_given : Kind → FieldValue → DataPiece
piece_given (kinds.Name form) (name labels) = name_piece form labels
piece_given kind value = octets_piece (field_wire value)

-- The piece of a value is one of its kind, its octets are those of the value, and it is read as the value.
abbrev IsGiven : Kind → FieldValue → List ℕ → Type 0
IsGiven kind value rest =
    IsPieceOf kind (piece_given kind value) rest × (piece_value kind (piece_given kind value) ≡ value)
    × (piece_octets (piece_given kind value) ≡ field_wire value)

six_octets : (n : ℕ) → n < 2 ^ 48 → from_be_bytes w64 (0 ∷ 0 ∷ drop 2 (to_be_bytes w64 n)) ≡ n
six_octets n small =
    let first : n / 72057594037927936 % 256 ≡ 0 = omega arith in
    let second : n / 281474976710656 % 256 ≡ 0 = omega arith in
    let same : to_be_bytes w64 n ≡ 0 ∷ 0 ∷ drop 2 (to_be_bytes w64 n) =
    ap (λ (a : ℕ). a ∷ drop 1 (to_be_bytes w64 n)) first ∙ ap (λ (b : ℕ). 0 ∷ b ∷ drop 2 (to_be_bytes w64 n)) second in
    ap (from_be_bytes w64) (sym same) ∙ from_be_bytes-to_be_bytes_8 n (omega (arith, small))

whole : (own rest : List ℕ) → rest ≡ [] → length own ≡ length (own ++ rest)
whole own rest none = ap length (sym (append-nil own) ∙ ap (λ (x : List ℕ). own ++ x) (sym none))

same_items : (kind : ListKind) (own : ItemsValue) → own.kind ≡ kind → items kind own.octets ≡ own
same_items kind own is = ap (λ k. items k own.octets) (sym is)

right_list : (kind : ListKind) (own : ItemsValue) → own.kind ≡ kind → list_fault own.kind own.octets ≡ None → list_fault kind own.octets ≡ None
right_list kind own is right = subst (λ k. list_fault k own.octets ≡ None) is right

-- octets after their number, in two octets
long_size : (own rest : List ℕ) → length own ≤ 65535 → length (to_be_bytes w16 (length own) ++ own) ≡ long_counted_size ((to_be_bytes w16 (length own) ++ own) ++ rest)
long_size own rest few =
    let n = length own in
    let back : from_be_bytes w16 (to_be_bytes w16 n) ≡ n = from_be_bytes-to_be_bytes_2 n (omega (arith, few)) in
    let size : length (to_be_bytes w16 n ++ own) ≡ 2 + n = omega arith in
    size ∙ ap (λ k. 2 + k) (sym back) ∙ sym (long_is (n / 256 % 256) (n % 256) (own ++ rest))

same_shape : (shape : Shape) (own : ShapedValue) → own.shape ≡ shape → record { shape = shape; octets = own.octets } ≡ own
same_shape shape own is = ap (λ s. record { shape = s; octets = own.octets }) (sym is)

right_shape : (shape : Shape) (own : ShapedValue) → own.shape ≡ shape → IsShaped own.shape own.octets → IsShaped shape own.octets
right_shape shape own is right = subst (λ s. IsShaped s own.octets) is right

given : (kind : Kind) (value : FieldValue) (rest : List ℕ) → IsFieldOf kind value → IsFieldValue value → (takes_all kind ≡ true → rest ≡ [])
    → IsGiven kind value rest
given (kinds.Name form) (name labels) rest is fits last = ((refl, fits), refl, refl)
given kinds.U8 (u8 n) rest is fits last = ((refl, refl), refl, refl)
given kinds.U16 (u16 n) rest is fits last = ((refl, refl), ap u16 (from_be_bytes-to_be_bytes_2 n fits), refl)
given kinds.U32 (u32 n) rest is fits last = ((refl, refl), ap u32 (from_be_bytes-to_be_bytes_4 n fits), refl)
given kinds.U48 (u48 n) rest is fits last = ((refl, refl), ap u48 (six_octets n is), refl)
given kinds.U64 (u64 n) rest is fits last = ((refl, refl), ap u64 (from_be_bytes-to_be_bytes_8 n fits), refl)
given kinds.Ipv4 (ipv4 own) rest is fits last = ((fits, refl), refl, refl)
given kinds.Ipv6 (ipv6 segments) rest is fits last = ((omega (arith, octets_length segments, fits), refl), ap ipv6 (segments_back segments), refl)
given kinds.TypeCode (type_code code) rest is fits last = ((refl, refl), ap type_code (ap type_of_code (from_be_bytes-to_be_bytes_2 _ fits) ∙ is), refl)
given kinds.Time (time n) rest is fits last = ((refl, refl), ap time (from_be_bytes-to_be_bytes_4 n fits), refl)
given (kinds.Counted shown) (counted own) rest is fits last = ((omega arith, refl), refl, refl)
given kinds.LongTime (u48 n) rest is fits last = ((refl, refl), ap u48 (six_octets n is), refl)
given kinds.ChaosAddress (u16 n) rest is fits last = ((refl, refl), ap u16 (from_be_bytes-to_be_bytes_2 n fits), refl)
given kinds.Locator (u64 n) rest is fits last = ((refl, refl), ap u64 (from_be_bytes-to_be_bytes_8 n fits), refl)
given kinds.NodeNumber (u64 n) rest is fits last = ((refl, refl), ap u64 (from_be_bytes-to_be_bytes_8 n fits), refl)
given (kinds.LongCounted shown) (long_counted own) rest is fits last = ((long_size own rest is, refl), refl, refl)
given (kinds.Shaped shape) (shaped own) rest is fits last =
    let right = right_shape shape own is fits in
    ((shape_given shape own.octets rest right last, right.right), ap shaped (same_shape shape own is), refl)
given (kinds.Octets shown) (octets own) rest is fits last = ((whole own rest (last refl), refl), refl, refl)
given (kinds.List lists.Texts) (texts own) rest (is, some) fits last =
    let size = whole own.octets rest (last refl) in
    ((omega (arith, size, some, ap (max 1) size), right_list lists.Texts own is fits), ap texts (same_items lists.Texts own is), refl)
given (kinds.List lists.Types) (types own) rest is fits last =
    ((whole own.octets rest (last refl), right_list lists.Types own is fits), ap types (same_items lists.Types own is), refl)
given (kinds.List lists.Params) (params own) rest is fits last =
    ((whole own.octets rest (last refl), right_list lists.Params own is fits), ap params (same_items lists.Params own is), refl)
given (kinds.List lists.Prefixes) (prefixes own) rest is fits last =
    ((whole own.octets rest (last refl), right_list lists.Prefixes own is fits), ap prefixes (same_items lists.Prefixes own is), refl)
given (kinds.List lists.Names) (names own) rest is fits last =
    ((whole own.octets rest (last refl), right_list lists.Names own is fits), ap names (same_items lists.Names own is), refl)
given kind value rest is fits last = absurd is

-- ---- what the table looks at of fields

some_octets : (first rest : List ℕ) → 1 ≤ length first → first ++ rest ≡ [] → ⊥
some_octets [] rest some none = omega (arith, some)
some_octets (x ∷ xs) rest some none = absurd cc

no_octets : (first rest : List ℕ) → first ++ rest ≡ [] → first ≡ []
no_octets [] rest none = refl
no_octets (x ∷ xs) rest none = absurd cc

same_first : (first rest : List ℕ) → 1 ≤ length first → slice_index first 0 ≡ slice_index (first ++ rest) 0
same_first [] rest some = absurd (omega (arith, some))
same_first (x ∷ xs) rest some = refl

shape_octets : (shape : Shape) (own : List ℕ) → IsShaped shape own → 1 ≤ length own
shape_octets Location [] is = absurd (omega (arith, is.size))
shape_octets Gateway [] is = absurd (omega (arith, is.size))
shape_octets Relay [] is = absurd (omega (arith, is.size))
shape_octets HostIdentity [] is = absurd (omega (arith, is.size))
shape_octets AddressSuffix [] is = absurd (omega (arith, is.size))
shape_octets shape (x ∷ xs) is = omega arith

given_alike : (kinds : List Kind) (values : List FieldValue) → AreFieldsOf kinds values → AllByRecursion IsFieldValue values
    → Alike kinds (front_of values) (flat_map field_wire values)
given_alike [] [] are fit = (refl, refl)
given_alike [] (value ∷ values) are fit = absurd are
given_alike (kind ∷ kinds) [] are fit = absurd are
given_alike (kinds.Name form ∷ others) (name labels ∷ values) are fit = λ none. absurd (some_octets (wire labels) _ (omega (arith, length_wire labels)) none)
given_alike (kinds.U8 ∷ others) (u8 n ∷ values) are fit = λ none. absurd cc
given_alike (kinds.U16 ∷ others) (u16 n ∷ values) are fit = λ none. absurd cc
given_alike (kinds.U32 ∷ others) (u32 n ∷ values) are fit = λ none. absurd cc
given_alike (kinds.U48 ∷ others) (u48 n ∷ values) are fit = λ none. absurd cc
given_alike (kinds.U64 ∷ others) (u64 n ∷ values) are fit = λ none. absurd cc
given_alike (kinds.Ipv4 ∷ others) (ipv4 own ∷ values) are (fits, fit) = λ none. absurd (some_octets own _ (omega (arith, fits)) none)
given_alike (kinds.Ipv6 ∷ others) (ipv6 segments ∷ values) are (fits, fit) =
    λ none. absurd (some_octets (octets_of_segments segments) _ (omega (arith, octets_length segments, fits)) none)
given_alike (kinds.TypeCode ∷ others) (type_code code ∷ values) are fit = λ none. absurd cc
given_alike (kinds.Time ∷ others) (time n ∷ values) are fit = λ none. absurd cc
given_alike (kinds.LongTime ∷ others) (u48 n ∷ values) are fit = λ none. absurd cc
given_alike (kinds.Locator ∷ others) (u64 n ∷ values) are fit = λ none. absurd cc
given_alike (kinds.NodeNumber ∷ others) (u64 n ∷ values) are fit = λ none. absurd cc
given_alike (kinds.ChaosAddress ∷ others) (u16 n ∷ values) are fit = λ none. absurd cc
given_alike (kinds.Counted shown ∷ others) (counted own ∷ values) are fit = λ none. absurd cc
given_alike (kinds.LongCounted shown ∷ others) (long_counted own ∷ values) are fit = λ none. absurd cc
given_alike (kinds.Shaped shape ∷ others) (shaped own ∷ values) are (fits, fit) =
    let some = shape_octets own.shape own.octets fits in
    (λ none. no_octets own.octets _ none, same_first own.octets _ some)
given_alike (kinds.Octets shown ∷ others) (octets own ∷ values) are fit = no_octets own _
given_alike (kinds.List lists.Texts ∷ others) (texts own ∷ values) are fit = no_octets own.octets _
given_alike (kinds.List lists.Types ∷ others) (types own ∷ values) are fit = no_octets own.octets _
given_alike (kinds.List lists.Params ∷ others) (params own ∷ values) are fit = no_octets own.octets _
given_alike (kinds.List lists.Prefixes ∷ others) (prefixes own ∷ values) are fit = no_octets own.octets _
given_alike (kinds.List lists.Names ∷ others) (names own ∷ values) are fit = no_octets own.octets _
given_alike (kind ∷ others) (value ∷ values) are fit = absurd are.0

-- ---- all fields

abbrev pieces_given : List Kind → List FieldValue → List DataPiece
pieces_given (kind ∷ kinds) (value ∷ values) = piece_given kind value ∷ pieces_given kinds values
pieces_given kinds values = []

others_last : (kind : Kind) (kinds : List Kind) → takes_all_last (kind ∷ kinds) ≡ true → takes_all_last kinds ≡ true × (takes_all kind ≡ true → kinds ≡ [])
others_last kind [] last = (refl, λ all. refl)
others_last kind (other ∷ others) last =
    let (first, more) = and_parts (not (takes_all kind)) (takes_all_last (other ∷ others)) last in
    (more, λ all. let wrong = rw all at first in absurd cc)

all_given : (kinds : List Kind) (values : List FieldValue) → AreFieldsOf kinds values → AllByRecursion IsFieldValue values → takes_all_last kinds ≡ true
    → ArePiecesOf kinds (pieces_given kinds values) × (piece_values kinds (pieces_given kinds values) ≡ values)
    × (octets_of (pieces_given kinds values) ≡ flat_map field_wire values)
all_given [] [] are fit last = (tt, refl, refl)
all_given [] (value ∷ values) are fit last = absurd are
all_given (kind ∷ kinds) [] are fit last = absurd are
all_given (kind ∷ kinds) (value ∷ values) (is, are) (fits, fit) last =
    let (more, end) = others_last kind kinds last in
    let (pieces, read, own) = all_given kinds values are fit more in
    let one = given kind value (octets_of (pieces_given kinds values)) is fits (λ all. ap (λ (ks : List Kind). octets_of (pieces_given ks values)) (end all)) in (
      (one.0, pieces),
      ap (λ x. x ∷ piece_values kinds (pieces_given kinds values)) one.1 ∙ ap (λ xs. value ∷ xs) read,
      ap (λ (x : List ℕ). x ++ octets_of (pieces_given kinds values)) one.2 ∙ ap (λ (x : List ℕ). field_wire value ++ x) own,
    )

in_kinds : (kinds : List Kind) (own : List ℕ) (values : List FieldValue) → own ≡ flat_map field_wire values → AreFieldsOf kinds values
    → AllByRecursion IsFieldValue values → takes_all_last kinds ≡ true → IsData kinds own × FieldsAre 0 kinds (alone own) values None
in_kinds kinds own values is are fit last =
    let (pieces, read, same) = all_given kinds values are fit last in
    let has : HasPieces kinds own (pieces_given kinds values) = record { are = pieces; whole = is ∙ sym same } in
    ((_, has), subst (λ vs. FieldsAre 0 kinds (alone own) vs None) read (data_have_fields kinds own _ has).0)

pub are_data : (class code : ℕ) (own : List ℕ) (values : List FieldValue) → own ≡ flat_map field_wire values
    → AreFieldsOf (fields_of class code (front_of values)) values → AllByRecursion IsFieldValue values
    → IsData (fields_of class code own) own × FieldsAre 0 (fields_of class code own) (alone own) values None
are_data class code own values is are fit =
    let kinds = fields_of class code (front_of values) in
    let same : fields_of class code own ≡ kinds = alike_fields class code (front_of values) own (rw is (given_alike kinds values are fit)) in
    rw same (in_kinds kinds own values is are fit (table_last class code (front_of values)))

-- ---- fields that are refused

pub not_refused : (number : ℕ) (kinds : List Kind) (values : List FieldValue) (error : FromFieldsError) → AreFieldsOf kinds values
    → FailsGivenFields number kinds values error → ⊥
not_refused number [] [] error are fails = fails
not_refused number [] (value ∷ values) error are fails = are
not_refused number (kind ∷ kinds) [] error are fails = are
not_refused number (kind ∷ kinds) (value ∷ values) error (is, are) (inl (wrong, _)) = wrong is
not_refused number (kind ∷ kinds) (value ∷ values) error (is, are) (inr (_, fails)) = not_refused (number + 1) kinds values error are fails
