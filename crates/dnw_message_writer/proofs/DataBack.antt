-- Data that are octets alone, or a name alone, are read as these.
use Rattle.std.proofs.Common.{◌≡◌, ℕ, ◌+◌, ◌-◌, ◌≤◌, List, [], ◌∷◌, ◌++◌, take, drop, slice_range, sym, ap, ◌∙◌, subst, refl, arith}
use Rattle.std.proofs.lemmas.List.{drop-take, take-append-drop}
use Rattle.dnw_name_read.specs.Reading.{NameAt}
use Rattle.dnw_name_read.proofs.Stand.{Reads_append}
use Rattle.dnw_record.specs.RecordFields.{up_to_end}
use Rattle.dnw_record.specs.Records.{RecordValue}
use Rattle.dnw_message_writer.specs.Contents.{PiecesStand}
use Rattle.dnw_message_writer.specs.ReadItems.{AreNameAlone, AreOctetsAlone, DataNamesAreRead, OctetsAreRead}
use Rattle.dnw_message_writer.specs.declared.pieces.Piece.{Piece}
use Rattle.dnw_message_writer.specs.declared.pieces.Piece.TheVariants.{Octets, Name}
use Rattle.dnw_message_writer.proofs.Laying.{take_less}

-- octets before where a message is cut
cut_range : (m : List ℕ) (p e : ℕ) → p ≤ e → slice_range (take e m) p e ≡ slice_range m p e
cut_range m p e order =
    let sum : e ≡ p + (e - p) = omega (arith, order) in
    ap (λ n. take (e - p) (drop p (take n m))) sum ∙ (ap (take (e - p)) (drop-take p (e - p) m) ∙ take_less (e - p) (e - p) (drop p m) (omega arith))

up_to : (x : RecordValue) → up_to_end x ≡ take (x.start + x.len) x.message
up_to x = ap (λ n. take n x.message) (omega arith)

octets_alone : (b : List ℕ) (p e : ℕ) (xs : List Piece) (own : List ℕ) → AreOctetsAlone xs own → PiecesStand b p xs e → slice_range b p e ≡ own
octets_alone b p e [] own alone h = absurd alone
octets_alone b p e (Octets bytes ∷ []) own alone (q, (q_is, there), last) =
    ap (λ n. slice_range b p n) (sym last) ∙ (there ∙ sym alone)
octets_alone b p e (Octets bytes ∷ (x ∷ xs)) own alone h = absurd alone
octets_alone b p e (Name ls ∷ xs) own alone h = absurd alone

pub octets_are_read : OctetsAreRead
octets_are_read r x own (owner, kind, class, ttl, inside, stand) alone =
    let e = x.start + x.len in
    sym (cut_range x.message x.start e (omega arith)) ∙ (ap (λ b. slice_range b x.start e) (sym (up_to x)) ∙ octets_alone (up_to_end x) x.start e r.pieces own alone stand)

name_alone : (b : List ℕ) (p e : ℕ) (xs : List Piece) (labels : List (List ℕ)) → AreNameAlone xs labels → PiecesStand b p xs e
    → (k : ℕ) × NameAt b p labels e k
name_alone b p e [] labels alone h = absurd alone
name_alone b p e (Name ls ∷ []) labels alone (q, (k, there), last) =
    (k, subst (λ n. NameAt b p n e k) (sym alone) (subst (λ n. NameAt b p ls n k) last there))
name_alone b p e (Name ls ∷ (x ∷ xs)) labels alone h = absurd alone
name_alone b p e (Octets bytes ∷ xs) labels alone h = absurd alone

pub data_names_are_read : DataNamesAreRead
data_names_are_read r x labels (owner, kind, class, ttl, inside, stand) alone =
    let e = x.start + x.len in
    let (k, there) = name_alone (up_to_end x) x.start e r.pieces labels alone stand in
    let cut : NameAt (take e x.message) x.start labels e k = subst (λ b. NameAt b x.start labels e k) (up_to x) there in
    let whole : NameAt (take e x.message ++ drop e x.message) x.start labels e k =
    record { reads = Reads_append (drop e x.message) cut.reads; fits = cut.fits } in
    (refl, k, subst (λ b. NameAt b x.start labels e k) (take-append-drop e x.message) whole)
