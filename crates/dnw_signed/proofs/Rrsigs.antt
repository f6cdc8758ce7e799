-- The data of an RRSIG are 18 octets, the signer's name and the signature.
use Rattle.std.proofs.Common.{◌≡◌, ℕ, ◌+◌, ◌≤◌, false, List, [], ◌∷◌, ◌++◌, length, take, Result, Ok, Err, refl, sym, ap, ◌∙◌, subst, append_assoc, arith, rules}
use Rattle.std.proofs.Math.Seq.{take-append_seam}
use Rattle.std.specs.Result.{IsOk, IsOkAnd}
use Rattle.dnw_base.specs.declared.error.DecodeError.{DecodeError}
use Rattle.dnw_base.specs.declared.error.DecodeError.TheVariants.{InsufficientBytes}
use Rattle.dnw_base.specs.Decoder.{Decoder, HasLeft, Takes, advanced}
use Rattle.dnw_data.specs.declared.kind.NameForm.TheVariants.{Plain}
use Rattle.dnw_record.proofs.Alike.{known_anywhere}
use Rattle.dnw_record.proofs.Pieces.{behind, name_again}
use Rattle.dnw_name_read.specs.Reading.{TakesName}
use Rattle.std.proofs.lemmas.List.{length-append}
use Rattle.std.specs.List.{AllByRecursion}
use Rattle.dnw_base.specs.DnsClasses.{class_code}
use Rattle.dnw_base.specs.Names.{AreLabels, lower, wire}
use Rattle.dnw_data.specs.declared.kind.Kind.{Kind}
use Rattle.dnw_data.specs.declared.kind.Kind.TheVariants.{Name, U8, U16, U32, TypeCode, Time}
use Rattle.dnw_data.specs.Table.{base64, fields_of, is_internet_type, lowered_name}
use Rattle.dnw_data.specs.Values.{own_size}
use Rattle.dnw_record.specs.DataPieces.{ArePiecesOf, DataPiece, DataValue, HasPieces, name_piece, octets_of, octets_piece}
use Rattle.dnw_record.specs.Inside.Copying.{IsNoName}
use Rattle.dnw_name_form.proofs.LowerWires.{AreLabels_lower}
use Rattle.dnw_signed.specs.CanonicalData.{IsCanonical, canonical_labels, canonical_pieces}
use Rattle.dnw_data.specs.Signature.{before_signer}
use Rattle.dnw_signed.specs.SignedFields.{IsRrsig, IsSignedFields}

-- a field of this kind takes the same number of octets whatever is left
pub record IsFixed (kind : Kind) : Type 0 where
  pub other : IsNoName kind
  pub size : (left : List ℕ) → own_size kind left ≡ own_size kind []

abbrev pub sizes : List Kind → ℕ
sizes [] = 0
sizes (kind ∷ kinds) = own_size kind [] + sizes kinds

-- octets of some size, and fields after them; in canonical form too
record Splits (size : ℕ) (kinds : List Kind) (pieces : List DataPiece) : Type 0 where
  front : List ℕ
  rest : List DataPiece
  whole : octets_of pieces ≡ front ++ octets_of rest
  canonical : octets_of (canonical_pieces pieces) ≡ front ++ octets_of (canonical_pieces rest)
  count : length front ≡ size
  are : ArePiecesOf kinds rest

own_first : (kind : Kind) (kinds : List Kind) (pieces : List DataPiece) → IsFixed kind → ArePiecesOf (kind ∷ kinds) pieces → Splits (own_size kind []) kinds pieces
own_first kind kinds [] f are = absurd are
own_first (Name form) kinds (piece ∷ pieces) f are = absurd f.other
own_first kind kinds (name_piece form labels ∷ pieces) f are = absurd are.0
own_first kind kinds (octets_piece own ∷ pieces) f ((size, right), are) =
    record { front = own; rest = pieces; whole = refl; canonical = refl; count = size ∙ f.size (own ++ octets_of pieces); are = are }

fixed_first : (front kinds : List Kind) (pieces : List DataPiece) → AllByRecursion IsFixed front → ArePiecesOf (front ++ kinds) pieces → Splits (sizes front) kinds pieces
fixed_first [] kinds pieces f are = record { front = []; rest = pieces; whole = refl; canonical = refl; count = refl; are = are }
fixed_first (kind ∷ front) kinds pieces (f, fs) are =
    let one = own_first kind (front ++ kinds) pieces f are in
    let more = fixed_first front kinds one.rest fs one.are in
    record {
      front = one.front ++ more.front;
      rest = more.rest;
      whole = one.whole ∙ ap (λ (x : List ℕ). one.front ++ x) more.whole ∙ sym (append_assoc one.front more.front (octets_of more.rest));
      canonical = one.canonical ∙ ap (λ (x : List ℕ). one.front ++ x) more.canonical
          ∙ sym (append_assoc one.front more.front (octets_of (canonical_pieces more.rest)));
      count = omega (arith, length-append one.front more.front, one.count, more.count);
      are = more.are;
    }

name_first : (kinds : List Kind) (pieces : List DataPiece) → ArePiecesOf (lowered_name ∷ kinds) pieces
    → (labels : List (List ℕ)) × (rest : List DataPiece) × AreLabels labels × (octets_of pieces ≡ wire labels ++ octets_of rest)
    × (octets_of (canonical_pieces pieces) ≡ wire (lower labels) ++ octets_of (canonical_pieces rest))
name_first kinds [] are = absurd are
name_first kinds (name_piece own labels ∷ pieces) ((is, labels_are), are) =
    (labels, pieces, labels_are, refl, ap (λ form. wire (canonical_labels form labels) ++ octets_of (canonical_pieces pieces)) is)
name_first kinds (octets_piece own ∷ pieces) are = absurd are.0

-- the fields before the signer's name
abbrev pub fixed_kinds : List Kind
fixed_kinds = TypeCode ∷ U8 ∷ U8 ∷ U32 ∷ Time ∷ Time ∷ U16 ∷ []

no_internet_type : is_internet_type 46 ≡ false
unfolding is_internet_type
no_internet_type = refl

pub rrsig_kinds : (class : ℕ) (own : List ℕ) → 1 ≤ length own → fields_of class 46 own ≡ fixed_kinds ++ lowered_name ∷ base64 ∷ []
rrsig_kinds class [] some = absurd (omega (arith, some))
rrsig_kinds class (o ∷ os) some = known_anywhere class 46 (o ∷ os) (λ none. absurd cc) no_internet_type

always : (kind : Kind) → IsNoName kind → ((left : List ℕ) → own_size kind left ≡ own_size kind []) → IsFixed kind
always kind other size = record { other = other; size = size }

pub all_fixed : AllByRecursion IsFixed fixed_kinds
all_fixed = (
  always TypeCode tt (λ left. refl),
  (
    always U8 tt (λ left. refl),
    (
      always U8 tt (λ left. refl),
      (
        always U32 tt (λ left. refl),
        (always Time tt (λ left. refl), (always Time tt (λ left. refl), (always U16 tt (λ left. refl), tt))),
      ),
    ),
  ),
)

-- the parts of the data, and of the same in canonical form
pub record RrsigParts (octets canonical : List ℕ) : Type 0 where
  pub fixed : List ℕ
  pub size : length fixed ≡ before_signer
  pub signer : List (List ℕ)
  pub are_labels : AreLabels signer
  pub signature : List ℕ
  pub whole : octets ≡ fixed ++ (wire signer ++ signature)
  pub rest : List ℕ
  pub lowered : canonical ≡ fixed ++ (wire (lower signer) ++ rest)

parts_of : (octets canonical : List ℕ) (pieces : List DataPiece) → HasPieces (fixed_kinds ++ lowered_name ∷ base64 ∷ []) octets pieces
    → canonical ≡ octets_of (canonical_pieces pieces) → RrsigParts octets canonical
parts_of octets canonical pieces has canonical_is =
    let split = fixed_first fixed_kinds (lowered_name ∷ base64 ∷ []) pieces all_fixed has.are in
    let (labels, rest, are, is, lowered) = name_first (base64 ∷ []) split.rest split.are in
    record {
      fixed = split.front;
      size = split.count;
      signer = labels;
      are_labels = are;
      signature = octets_of rest;
      whole = has.whole ∙ split.whole ∙ ap (λ (x : List ℕ). split.front ++ x) is;
      rest = octets_of (canonical_pieces rest);
      lowered = canonical_is ∙ split.canonical ∙ ap (λ (x : List ℕ). split.front ++ x) lowered;
    }

pub rrsig_parts : (x : DataValue) (canonical : List ℕ) → IsRrsig x → IsCanonical x canonical → RrsigParts x.octets canonical
rrsig_parts x canonical (rrsig, long) (pieces, has, is) =
    let kinds = ap (λ code. fields_of (class_code x.class) code x.octets) rrsig ∙ rrsig_kinds (class_code x.class) x.octets (omega (arith, long)) in
    parts_of x.octets canonical pieces (subst (λ fields. HasPieces fields x.octets pieces) kinds has) is

-- the signer's name is read where it is
labels_of : DataPiece → List (List ℕ)
labels_of (name_piece form labels) = labels
labels_of (octets_piece own) = []

-- the octets that are signed
abbrev pub signed_part : {octets canonical : List ℕ} → RrsigParts octets canonical → List ℕ
signed_part p = p.fixed ++ wire (lower p.signer)

pub signer_there : {octets canonical : List ℕ} (p : RrsigParts octets canonical) (d : Decoder) → d ≡ record { bytes = canonical; index = before_signer }
    → (k : ℕ) × TakesName d (behind (signed_part p) p.rest) (lower p.signer) k
unfolding labels_of
signer_there {canonical = canonical} p d at =
    let signer = lower p.signer in
    let (labels, k, takes, is) = name_again Plain signer p.fixed p.rest (AreLabels_lower p.signer p.are_labels) in
    let here : behind p.fixed (wire signer ++ p.rest) ≡ d =
    ap (λ (b : List ℕ). record { bytes = b; index = length p.fixed }) (sym p.lowered) ∙ ap (λ n. record { bytes = canonical; index = n }) p.size ∙ sym at in (
      k,
      subst (λ x. TakesName x (behind (signed_part p) p.rest) signer k) here
          (subst (λ ls. TakesName (behind p.fixed (wire signer ++ p.rest)) (behind (signed_part p) p.rest) ls k) (sym (ap labels_of is)) takes),
    )

pub skipped : (d after : Decoder) (n : ℕ) (r : Result (Unit {0}) DecodeError) → HasLeft d n → Takes d n (λ _. Unit {0}) r after → IsOk r × (after ≡ advanced d n)
skipped d after n (Ok done) left h = (search rules, h.2)
skipped d after n (Err InsufficientBytes) left h = absurd (h.0 left)
skipped d after n (Err error) left h = absurd h

pub long_enough : {octets canonical : List ℕ} → RrsigParts octets canonical → before_signer ≤ length canonical
long_enough p = omega (arith, ap length p.lowered, length-append p.fixed (wire (lower p.signer) ++ p.rest), p.size)

pub front_part : {octets canonical : List ℕ} (p : RrsigParts octets canonical) → take (length (signed_part p)) canonical ≡ signed_part p
front_part p =
    ap (λ (x : List ℕ). take (length (signed_part p)) x) (p.lowered ∙ sym (append_assoc p.fixed (wire (lower p.signer)) p.rest))
    ∙ take-append_seam (signed_part p) p.rest

pub signed_made : (x : DataValue) (canonical out : List ℕ) → IsRrsig x → (p : RrsigParts x.octets canonical) → out ≡ signed_part p → IsSignedFields x out
signed_made x canonical out rrsig p is =
    record {
      rrsig = rrsig;
      fixed = p.fixed;
      size = p.size;
      signer = p.signer;
      are_labels = p.are_labels;
      signature = p.signature;
      whole = p.whole;
      signed = is;
    }

pub is_ok : {A E : Type 0} (r : Result A E) (P : A → Type 0) → IsOkAnd r P → IsOk r
is_ok (Ok x) P h = search rules
is_ok (Err e) P h = absurd h
