-- Data that are copied, or read elsewhere as the same pieces, have the kinds of field that they had.
use Rattle.std.proofs.Common.{◌≡◌, ℕ, zero, suc, ◌+◌, ◌-◌, ◌≤◌, false, inl, inr, List, [], ◌∷◌, length, take, drop, slice_index, refl, sym, ap, ◌∙◌, subst, arith, length-drop}
use Rattle.std.proofs.lemmas.Bool.{cases_Bool}
use Rattle.std.proofs.lemmas.List.{length-take-le, nil_from_length}
use Rattle.dnw_base.specs.declared.dns_class.DNSClass.{DNSClass}
use Rattle.dnw_base.specs.declared.record_type.RecordType.{RecordType}
use Rattle.dnw_base.specs.DnsClasses.{class_code, class_of_code}
use Rattle.dnw_base.specs.RecordTypes.{type_code, type_of_code}
use Rattle.dnw_base.specs.Decoder.{Decoder}
use Rattle.dnw_name_read.proofs.Counts.{Reads_own}
use Rattle.dnw_data.specs.declared.kind.Kind.{Kind}
use Rattle.dnw_data.specs.declared.kind.Kind.TheVariants.{Name, Shaped}
use Rattle.dnw_data.specs.Fields.{own_at, size_at}
use Rattle.dnw_data.specs.Table.{fields_in_internet, fields_of, fields_of_some, is_internet_type, is_like_internet, may_lack_data}
use Rattle.dnw_data.proofs.Codes.{class_back, code_back}
use Rattle.dnw_data.proofs.Rows.{Alike, alike_fields, first_of, size_some}
use Rattle.dnw_record.specs.Records.{RecordValue}
use Rattle.dnw_record.specs.declared.record.Record.{Record}
use Rattle.dnw_record.specs.DataPieces.{DataPiece, HasPieces, IsData, data_kinds, kinds_of, piece_octets}
use Rattle.dnw_record.specs.DataCopies.{Copies, TakesOwnPiece, TakesPieces, alone, data_start, kinds_at, record_kinds}
use Rattle.dnw_record.proofs.Pieces.{are_pieces, whole_pieces}

-- data of a type that is not IN's alone have the same fields in any class, if they are not left out
pub known_anywhere : (class code : ℕ) (octets : List ℕ) → (octets ≡ [] → may_lack_data class code ≡ false) → is_internet_type code ≡ false
    → fields_of class code octets ≡ fields_in_internet code octets
unfolding fields_of
known_anywhere class code octets must known = by_octets octets must
  where
    some : (own : List ℕ) → fields_of_some class code own ≡ fields_in_internet code own
    some own = elim (cases_Bool (is_like_internet class)) [ inl like ↦ rw like refl | inr other ↦ rw (other, known) refl ]

    by_octets : (own : List ℕ) → (own ≡ [] → may_lack_data class code ≡ false) → fields_of class code own ≡ fields_in_internet code own
    by_octets [] lacks = rw (lacks refl) (some [])
    by_octets (o ∷ os) lacks = some (o ∷ os)

-- the octets that are left
abbrev left_of : Decoder → List ℕ
left_of d = drop d.index d.bytes

-- ---- one field that is no name

own_is : (kind : Kind) (d : Decoder) → own_at kind d ≡ take (size_at kind d) (left_of d)
own_is kind d = ap (λ n. take n (left_of d)) (let many : d.index + size_at kind d - d.index ≡ size_at kind d = omega arith in many)

own_none : (kind : Kind) (a b : Decoder) → size_at kind a ≤ length (left_of a) → own_at kind a ≡ own_at kind b → left_of b ≡ [] → left_of a ≡ []
own_none kind a b within same none =
    let empty : own_at kind b ≡ [] = own_is kind b ∙ ap (take (size_at kind b)) none ∙ take_nil (size_at kind b) in
    let size : size_at kind a ≡ 0 = sym (length-take-le (size_at kind a) (left_of a) within) ∙ ap length (sym (own_is kind a)) ∙ ap length (same ∙ empty) in
    size_some kind (left_of a) size
  where
    take_nil : (n : ℕ) → take {A = ℕ} n [] ≡ []
    take_nil zero = refl
    take_nil (suc n) = refl

own_first : (kind : Kind) (a b : Decoder) → own_at kind a ≡ own_at kind b → slice_index (left_of a) 0 ≡ slice_index (left_of b) 0
own_first kind a b same =
    sym (first_of kind (left_of a) (own_at kind a) (own_is kind a)) ∙ ap (λ (o : List ℕ). slice_index o 0) same ∙ first_of kind (left_of b) (own_at kind b) (own_is kind b)

same_own : (kind : Kind) (a b a' b' : Decoder) (p : DataPiece) → TakesOwnPiece kind a p a' → TakesOwnPiece kind b p b'
    → (own_at kind a ≡ own_at kind b) × (size_at kind a ≤ length (left_of a))
same_own kind a b a' b' p (enough, right, is, there) (enough', right', is', there') =
    (ap piece_octets (sym is ∙ is'), omega (arith, enough, length-drop a.index a.bytes))

-- ---- all fields

at_end : (d : Decoder) → d.index ≡ length d.bytes → left_of d ≡ []
at_end d end = nil_from_length (left_of d) (omega (arith, end, length-drop d.index d.bytes))

alike : (kinds : List Kind) (a b : Decoder) (pieces : List DataPiece) → TakesPieces kinds a pieces → TakesPieces kinds b pieces
    → Alike kinds (left_of a) (left_of b)
alike [] a b [] end end' = (at_end a end, at_end b end')
alike [] a b (p ∷ ps) takes takes' = absurd takes
alike (kind ∷ kinds) a b [] takes takes' = absurd takes
alike (Name form ∷ kinds) a b (p ∷ ps) takes (after, (labels, k, name, is), more) =
    let (later, inside) = Reads_own name.name.reads in
    λ none. absurd (omega (arith, later, inside, ap length none, length-drop b.index b.bytes))
alike (Shaped shape ∷ kinds) a b (p ∷ ps) (after, one, more) (after', one', more') =
    let (own, within) = same_own (Shaped shape) a b after after' p one one' in
    (own_none (Shaped shape) a b within own, own_first (Shaped shape) a b own)
alike (kind ∷ kinds) a b (p ∷ ps) (after, one, more) (after', one', more') =
    let (own, within) = same_own kind a b after after' p one one' in
    own_none kind a b within own

-- ---- copies

pub copied_kinds : (class : DNSClass) (record_type : RecordType) (d : Decoder) (octets : List ℕ) → Copies (kinds_at class record_type d) d octets
    → kinds_of class record_type octets ≡ kinds_at class record_type d
copied_kinds class record_type d octets (pieces, takes, is) =
    let kinds = kinds_at class record_type d in
    let has : HasPieces kinds octets pieces = record { are = are_pieces kinds d pieces takes; whole = is } in
    alike_fields (class_code class) (type_code record_type) (left_of d) octets
    (alike kinds d (alone octets) pieces takes (whole_pieces kinds octets pieces has))

pub copied_data : (class : DNSClass) (record_type : RecordType) (d : Decoder) (octets : List ℕ) → Copies (kinds_at class record_type d) d octets
    → IsData (kinds_of class record_type octets) octets
copied_data class record_type d octets copied =
    let (pieces, takes, is) = copied in
    subst (λ kinds. IsData kinds octets) (sym (copied_kinds class record_type d octets copied))
    (pieces, record { are = are_pieces (kinds_at class record_type d) d pieces takes; whole = is })

-- ---- records that are read again

pub read_kinds : (r : Record) (x : RecordValue) (pieces : List DataPiece)
    → x.class ≡ class_of_code (class_code r.data.class) → x.record_type ≡ type_of_code (type_code r.data.record_type)
    → HasPieces (data_kinds r.data) r.data.octets pieces → TakesPieces (data_kinds r.data) (data_start x) pieces
    → record_kinds x ≡ data_kinds r.data
read_kinds r x pieces class record_type has takes =
    let kinds = data_kinds r.data in
    let same_class : class_code x.class ≡ class_code r.data.class = ap class_code class ∙ class_back (class_code r.data.class) in
    let same_type : type_code x.record_type ≡ type_code r.data.record_type = ap type_code record_type ∙ code_back (type_code r.data.record_type) in
    rw (same_class, same_type) (alike_fields (class_code r.data.class) (type_code r.data.record_type) r.data.octets (left_of (data_start x))
    (alike kinds (alone r.data.octets) (data_start x) pieces (whole_pieces kinds r.data.octets pieces has) takes))
