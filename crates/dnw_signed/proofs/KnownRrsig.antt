-- The octets that an RRSIG has signed of its data: the first 18, and the name after them, in lower case.
use Rattle.std.proofs.Common.{◌≡◌, ◌↔◌, ℕ, ◌+◌, ◌-◌, ◌≤◌, Bool, IsTrue, None, List, [], ◌∷◌, ◌++◌, length, map, take, drop, refl, sym, ap, ◌∙◌, subst, append_assoc, arith}
use Rattle.std.proofs.Math.Seq.{drop-append_seam}
use Rattle.std.proofs.lemmas.Str.Ascii.{lowercase-lowercase}
use Rattle.std.specs.Char.{to_ascii_lowercase}
use Rattle.std.proofs.lemmas.List.{length-append, length-drop, length-take-le}
use Rattle.std.specs.List.{AllByRecursion, slice_range}
use Rattle.dnw_base.specs.Decoder.{Decoder, HasLeft, advanced, next_bytes}
use Rattle.dnw_base.specs.DnsClasses.{class_code}
use Rattle.dnw_base.specs.Names.{lower, wire}
use Rattle.dnw_data.specs.Fields.{own_at, size_at}
use Rattle.dnw_data.specs.Table.{base64, fields_of, lowered_name}
use Rattle.dnw_data.specs.Values.{own_fault, own_size}
use Rattle.dnw_data.specs.declared.kind.Kind.{Kind}
use Rattle.dnw_data.specs.declared.kind.Kind.TheVariants.{Name, U8, U16, U32, TypeCode, Time}
use Rattle.dnw_data.specs.declared.kind.NameForm.TheVariants.{Lowered}
use Rattle.dnw_name_form.proofs.LowerWires.{AreLabels_lower}
use Rattle.dnw_name_form.proofs.Wires.{labels_of_form}
use Rattle.dnw_name_order.specs.Order.{IsZoneOf}
use Rattle.dnw_name_read.proofs.Copying.{slice_range_split}
use Rattle.dnw_name_read.proofs.Counts.{own_octets}
use Rattle.dnw_name_read.specs.Reading.{TakesName}
use Rattle.dnw_record.specs.DataCopies.{TakesPieces, data_start, record_kinds}
use Rattle.dnw_record.specs.DataPieces.{DataPiece, name_piece, octets_of, octets_piece}
use Rattle.dnw_record.specs.Records.{RecordValue}
use Rattle.dnw_signed.specs.Covering.{HasRrsigType, IsRrsigOf}
use Rattle.dnw_data.specs.Signature.{before_signer}
use Rattle.dnw_signed.specs.Inside.Selecting.{KnowsZone}
use Rattle.dnw_signed.proofs.Rrsigs.{IsFixed, all_fixed, fixed_kinds, rrsig_kinds, sizes}

-- a field of a fixed size and with no fault
record IsSized (kind : Kind) : Type 0 where
  fixed : IsFixed kind
  right : (own : List ℕ) → own_fault kind own ≡ None

take_own : (kind : Kind) (kinds : List Kind) (d : Decoder) (pieces : List DataPiece) → IsSized kind → HasLeft d (own_size kind [])
    → TakesPieces kinds (advanced d (own_size kind [])) pieces
    → TakesPieces (kind ∷ kinds) d (octets_piece (next_bytes d (own_size kind [])) ∷ pieces)
take_own (Name form) kinds d pieces f left rest = absurd f.fixed.other
take_own kind kinds d pieces f left rest =
    let same : own_size kind [] ≡ size_at kind d = sym (f.fixed.size (drop d.index d.bytes)) in (
      advanced d (own_size kind []),
      (subst (HasLeft d) same left, f.right (own_at kind d), ap (λ n. octets_piece (next_bytes d n)) same, ap (advanced d) same),
      rest,
    )

next_both : (d : Decoder) (n m : ℕ) → next_bytes d (n + m) ≡ next_bytes d n ++ next_bytes (advanced d n) m
next_both d n m =
    ap (λ e. slice_range d.bytes d.index e) (omega arith)
    ∙ slice_range_split d.bytes d.index (d.index + n) (d.index + n + m) (omega arith) (omega arith)

further : (d : Decoder) (n m : ℕ) → advanced d (n + m) ≡ advanced (advanced d n) m
further d n m = ap (λ i. record { bytes = d.bytes; index = i }) (omega arith)

take_front : (front kinds : List Kind) (d : Decoder) (more : List DataPiece) → AllByRecursion IsSized front → HasLeft d (sizes front)
    → TakesPieces kinds (advanced d (sizes front)) more
    → (pieces : List DataPiece) × TakesPieces (front ++ kinds) d pieces × (octets_of pieces ≡ next_bytes d (sizes front) ++ octets_of more)
take_front [] kinds d more f left rest =
    let still : d.index + 0 ≡ d.index = omega arith in
    let zero : d.index + 0 - d.index ≡ 0 = omega arith in
    let stays : advanced d 0 ≡ d = ap (λ i. record { bytes = d.bytes; index = i }) still in
    let none : next_bytes d 0 ≡ [] = ap (λ n. take n (drop d.index d.bytes)) zero in
    (more, subst (λ x. TakesPieces kinds x more) stays rest, ap (λ (x : List ℕ). x ++ octets_of more) (sym none))
take_front (kind ∷ front) kinds d more (f, fs) left rest =
    let n = own_size kind [] in
    let m = sizes front in
    let (pieces, takes, is) = take_front front kinds (advanced d n) more fs (omega (arith, left))
    (subst (λ x. TakesPieces kinds x more) (further d n m) rest) in (
      octets_piece (next_bytes d n) ∷ pieces,
      take_own kind (front ++ kinds) d pieces f (omega (arith, left)) takes,
      ap (λ (x : List ℕ). next_bytes d n ++ x) is ∙ sym (append_assoc (next_bytes d n) (next_bytes (advanced d n) m) (octets_of more))
          ∙ ap (λ (x : List ℕ). x ++ octets_of more) (sym (next_both d n m)),
    )

sized : (kind : Kind) → IsFixed kind → ((own : List ℕ) → own_fault kind own ≡ None) → IsSized kind
sized kind fixed right = record { fixed = fixed; right = right }

all_sized : AllByRecursion IsSized fixed_kinds
all_sized =
    let (a, (b, (c, (d, (e, (f, (g, end))))))) = all_fixed in (
      sized TypeCode a (λ own. refl),
      (
        sized U8 b (λ own. refl),
        (
          sized U8 c (λ own. refl),
          (
            sized U32 d (λ own. refl),
            (sized Time e (λ own. refl), (sized Time f (λ own. refl), (sized U16 g (λ own. refl), tt))),
          ),
        ),
      ),
    )

front_size : (d : Decoder) → HasLeft d before_signer → length (next_bytes d before_signer) ≡ before_signer
front_size d left =
    let few : d.index + before_signer - d.index ≤ length (drop d.index d.bytes) = omega (arith, left, length-drop d.index d.bytes) in
    omega (arith, length-take-le (d.index + before_signer - d.index) (drop d.index d.bytes) few)

pub known_rrsig : (s : RecordValue) (labels : List (List ℕ)) (k : ℕ) (after : Decoder) (fields : List ℕ) → HasRrsigType s
    → HasLeft (data_start s) before_signer → TakesName (advanced (data_start s) before_signer) after labels k
    → fields ≡ next_bytes (data_start s) before_signer ++ wire (lower labels) → IsRrsigOf s fields
known_rrsig s labels k after fields type left t is =
    let d = data_start s in
    let octets = drop d.index d.bytes in
    let front = next_bytes d before_signer in
    let some : 1 ≤ length octets = omega (arith, left, length-drop d.index d.bytes) in
    let kinds : record_kinds s ≡ fixed_kinds ++ lowered_name ∷ base64 ∷ [] =
    ap (λ code. fields_of (class_code s.class) code octets) type ∙ rrsig_kinds (class_code s.class) octets some in
    let (further_on, inside, are) = own_octets _ _ labels t.end k t.name in
    let within : after.index ≤ length after.bytes = rw t.moved inside in
    let size = length (drop after.index after.bytes) in
    let signature = octets_piece (next_bytes after size) in
    let last : TakesPieces (base64 ∷ []) after (signature ∷ []) =
    (advanced after size, (omega (arith, within, length-drop after.index after.bytes), refl, refl, refl), omega (arith, within, length-drop after.index after.bytes)) in
    let (pieces, takes, octets_are) = take_front fixed_kinds (lowered_name ∷ base64 ∷ []) d (name_piece Lowered labels ∷ signature ∷ []) all_sized left (after, (labels, k, t, refl), last) in
    let count : before_signer ≤ length (octets_of pieces) = omega (arith, ap length octets_are, length-append front (wire labels ++ octets_of (signature ∷ [])), front_size d left) in
    record {
      octets = octets_of pieces;
      copied = (pieces, subst (λ ks. TakesPieces ks d pieces) (sym kinds) takes, refl);
      parts = record {
        rrsig = (type, count);
        fixed = front;
        size = front_size d left;
        signer = labels;
        are_labels = are;
        signature = octets_of (signature ∷ []);
        whole = octets_are;
        signed = is;
      };
    }

-- ---- the zone

label_twice : (label : List ℕ) → map to_ascii_lowercase (map to_ascii_lowercase label) ≡ map to_ascii_lowercase label
label_twice [] = refl
label_twice (c ∷ label) = rw (lowercase-lowercase c, label_twice label) refl

lower_twice : (labels : List (List ℕ)) → lower (lower labels) ≡ lower labels
lower_twice [] = refl
lower_twice (label ∷ labels) = rw (label_twice label, lower_twice labels) refl

-- whether the name that was read is a zone of the owner is whether its form in lower case is
pub known_zone : (s : RecordValue) (labels : List (List ℕ)) (k : ℕ) (after : Decoder) (fields : List ℕ) (in_zone : Bool)
    → HasLeft (data_start s) before_signer → TakesName (advanced (data_start s) before_signer) after labels k
    → fields ≡ next_bytes (data_start s) before_signer ++ wire (lower labels) → IsTrue in_zone ↔ IsZoneOf labels s.owner → KnowsZone s fields in_zone
known_zone s labels k after fields in_zone left t is (to, back) =
    let front = next_bytes (data_start s) before_signer in
    let (further_on, inside, are) = own_octets _ _ labels t.end k t.name in
    let rest : drop before_signer fields ≡ wire (lower labels) =
    ap (λ n. drop n fields) (sym (front_size (data_start s) left)) ∙ ap (λ (x : List ℕ). drop (length front) x) is
    ∙ drop-append_seam front (wire (lower labels)) in
    let low = AreLabels_lower labels are in (
      λ h. let (first, last, split, same) = to h in (lower labels, low, rest, (first, last, split, same ∙ sym (lower_twice labels))),
      λ h. let (signer, these, form, zone) = h in
          let (first, last, split, same) = zone in
          let signer_is : signer ≡ lower labels = sym (labels_of_form (drop before_signer fields) signer form these).1 ∙ (labels_of_form (drop before_signer fields) (lower labels) rest low).1 in
          back (first, last, split, same ∙ ap lower signer_is ∙ lower_twice labels),
    )
