-- Items that fit with their names whole fit.
use Rattle.std.proofs.Common.{◌≡◌, ℕ, ◌+◌, ◌-◌, ◌≤◌, Option, Some, None, IfNone, List, [], ◌∷◌, ◌++◌, length, sym, ap, subst, inl, inr, arith, length-append}
use Rattle.dnw_base.specs.Names.{AreLabels, wire}
use Rattle.dnw_base.proofs.Wires.{length_wire}
use Rattle.dnw_message_writer.specs.Inside.Fitting.{FitWhole, HasLabels, whole_size}
use Rattle.dnw_message_writer.specs.Items.{IsOwner, QuestionGoesPast, RecordGoesPast}
use Rattle.dnw_message_writer.specs.Pieces.{GoesPast, IsPiece}
use Rattle.dnw_message_writer.specs.declared.pieces.Piece.{Piece}
use Rattle.dnw_message_writer.specs.declared.pieces.Piece.TheVariants.{Octets, Name}
use Rattle.dnw_message_writer.proofs.Places.{names_take_no_more}

pub none_never : {A : Type 0} (r : Option A) (P Q : Type 0) → IfNone r P → (P → ⊥) → IfNone r Q
none_never (Some x) P Q h not = tt
none_never None P Q h not = absurd (not h)

-- one more piece fits
pub one_fits : (left : ℕ) (x : Piece) (xs all : List Piece) (size : ℕ) → all ≡ x ∷ xs → size ≡ whole_size x → HasLabels x → size ≤ left
    → FitWhole (left - size) xs → FitWhole left all
one_fits left x xs all size split size_is labels fits rest =
    subst (λ ps. FitWhole left ps) (sym split) (labels, omega (arith, fits, size_is), rw size_is at rest)

pub none_fit : (left : ℕ) (all : List Piece) → all ≡ [] → FitWhole left all
none_fit left all none = subst (λ ps. FitWhole left ps) (sym none) tt

module _ (slot : List (List ℕ) → ℕ) where
  pub owner_fits : (b : List ℕ) (near : ℕ) (hints : List ℕ) (ls : List (List ℕ)) (octets after : List ℕ) → AreLabels ls
      → IsOwner slot b near hints ls octets after → length octets ≤ length (wire ls)
  owner_fits b near hints ls octets after are (inl (usable, is, same)) = omega (arith, usable.0, ap length is)
  owner_fits b near hints ls octets after are (inr (not, h)) =
      omega (arith, names_take_no_more slot b (length b) (length b) hints ls octets after are h, length_wire ls)

  pub question_fits : (limit : ℕ) (b : List ℕ) (near : ℕ) (hints : List ℕ) (ls : List (List ℕ)) → AreLabels ls
      → length b + (length (wire ls) + 4) ≤ limit → QuestionGoesPast slot limit b near hints ls → ⊥
  question_fits limit b near hints ls are room (name, after, owner, past) =
      omega (arith, owner_fits b near hints ls name after are owner, room, past)

  pub piece_fits : (b : List ℕ) (gap : ℕ) (hints : List ℕ) (x : Piece) (octets after : List ℕ) → HasLabels x
      → IsPiece slot b gap hints x octets after → length octets ≤ whole_size x
  piece_fits b gap hints (Octets bytes) octets after labels h = omega (arith, ap length h.0)
  piece_fits b gap hints (Name ls) octets after labels h =
      omega (arith, names_take_no_more slot b gap (length b) hints ls octets after labels h, length_wire ls)

  pieces_fit : (limit : ℕ) (b : List ℕ) (gap : ℕ) (hints : List ℕ) (xs : List Piece) (room : ℕ) → FitWhole room xs
      → length b + room ≤ limit → GoesPast slot limit b gap hints xs → ⊥
  pieces_fit limit b gap hints [] room fit within past = past
  pieces_fit limit b gap hints (x ∷ xs) room (labels, size, fit) within (own, between, is, inl past) =
      omega (arith, piece_fits b gap hints x own between labels is, size, within, past)
  pieces_fit limit b gap hints (x ∷ xs) room (labels, size, fit) within (own, between, is, inr past) =
      let few = piece_fits b gap hints x own between labels is in
      pieces_fit limit (b ++ own) gap between xs (room - whole_size x) fit (omega (arith, few, size, within, length-append b own)) past

  pub record_fits : (limit : ℕ) (b : List ℕ) (near : ℕ) (hints : List ℕ) (ls : List (List ℕ)) (fields : List ℕ) (xs : List Piece) (room : ℕ)
      → AreLabels ls → length fields ≡ 10 → FitWhole room xs → length b + (length (wire ls) + 10) + room ≤ limit
      → RecordGoesPast slot limit b near hints ls fields xs → ⊥
  record_fits limit b near hints ls fields xs room are ten fit within (owner, between, is, inl past) =
      omega (arith, owner_fits b near hints ls owner between are is, ten, within, past)
  record_fits limit b near hints ls fields xs room are ten fit within (owner, between, is, inr past) =
      let few = owner_fits b near hints ls owner between are is in
      let size = length-append b owner in
      let more = length-append (b ++ owner) fields in
      pieces_fit limit ((b ++ owner) ++ fields) (length b + length owner + (length fields - 2)) between xs room fit
      (omega (arith, few, ten, within, size, more)) past
