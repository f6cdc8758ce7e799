-- A last record has its names whole: no hint is usable, since none is the offset of an item before it.
use Rattle.std.proofs.Common.{◌≡◌, ◌⊎◌, ℕ, ◌+◌, ◌-◌, ◌≤◌, List, [], ◌∷◌, ◌++◌, length, take, get_or, replicate, ap, subst, sym, inl, inr, refl, arith, length-append}
use Rattle.std.specs.Int.{w16, to_be_bytes}
use Rattle.std.specs.List.{AllByRecursion}
use Rattle.std.proofs.lemmas.List.{get_or-replicate, get_or_past}
use Rattle.dnw_base.specs.Names.{encoded_size, label_wire}
use Rattle.dnw_base.proofs.Wires.{encoded_size_cons}
use Rattle.dnw_message_writer.specs.CompressedNames.{Compresses, FindsHint, kept_hints}
use Rattle.dnw_message_writer.specs.Items.{IsOwner, before_length, fields_of_record}
use Rattle.dnw_message_writer.specs.Pieces.{ArePieces}
use Rattle.dnw_message_writer.specs.SizeLaws.{IsPlainPiece, LastRecordsAreWhole, whole_pieces}
use Rattle.dnw_message_writer.specs.Standing.{FollowsPointer, IsThere, StandsSettled, at_start}
use Rattle.dnw_message_writer.specs.declared.pieces.Piece.{Piece}
use Rattle.dnw_message_writer.specs.declared.pieces.Piece.TheVariants.{Name, Octets}
use Rattle.dnw_message_writer.specs.declared.standing.Spot.{Spot}
use Rattle.dnw_message_writer.specs.declared.state.WriterState.{WriterState}
use Rattle.dnw_message_writer.proofs.Repeats.{kept_index}
use Rattle.dnw_message_writer.proofs.Turning.{le_or_lt}

-- the offset is in the header, or past the message
abbrev IsIdle : List ℕ → ℕ → Type 0
IsIdle b p = (p ≡ 0) ⊎ (length b ≤ p)

-- all hints are
abbrev AreIdle : List ℕ → List ℕ → Type 0
AreIdle b hints = (i : ℕ) → IsIdle b (get_or hints i 0)

-- no octets are settled there
never_there : (b : List ℕ) (gap : ℕ) (s t : Spot) (octets : List ℕ) → IsIdle b s.position → 1 ≤ length octets
    → FollowsPointer b gap s t → IsThere b gap t octets → ⊥
never_there b gap s t octets (inl zero) some (inl (leads, is)) there = omega (arith, leads.settled.after_header, zero)
never_there b gap s t octets (inr past) some (inl (leads, is)) there = omega (arith, leads.settled.inside, past)
never_there b gap s t octets (inl zero) some (inr (not, is)) there =
    omega (arith, there.settled.after_header, ap (λ (x : Spot). x.position) is, zero)
never_there b gap s t octets (inr past) some (inr (not, is)) there =
    omega (arith, there.settled.inside, ap (λ (x : Spot). x.position) is, past, some)

-- so no labels stand there
never_stands : (b : List ℕ) (gap p : ℕ) (ls : List (List ℕ)) → IsIdle b p → StandsSettled b gap p ls → ⊥
never_stands b gap p [] idle (t, follows, there) = never_there b gap (at_start b p) t (0 ∷ []) idle (omega arith) follows there
never_stands b gap p (l ∷ ls) idle (t, follows, there, others) =
    never_there b gap (at_start b p) t (label_wire l) idle (omega arith) follows there

-- and no hint is found
never_found : (b : List ℕ) (gap : ℕ) (hints : List ℕ) (at_slot : ℕ) (ls : List (List ℕ)) (hint : ℕ) → AreIdle b hints
    → FindsHint b gap hints at_slot ls hint → ⊥
never_found b gap hints at_slot ls hint idle (usable, inl is) = never_stands b gap hint ls (subst (IsIdle b) (sym is) (idle at_slot)) usable.1
never_found b gap hints at_slot ls hint idle (usable, inr (not, is)) =
    never_stands b gap hint ls (subst (IsIdle b) (sym is) (idle (at_slot + 256))) usable.1

-- the new hint is past the message
kept_idle : (b hints : List ℕ) (at_slot offset : ℕ) → length b ≤ offset → AreIdle b hints → AreIdle b (kept_hints hints at_slot offset)
kept_idle b hints at_slot offset past idle i =
    elim (kept_index hints at_slot offset i) [
      | inl (j, old) ↦ subst (IsIdle b) (sym old) (idle j)
      | inr new ↦ subst (IsIdle b) (sym new) (inr past)
    ]

module _ (slot : List (List ℕ) → ℕ) (b : List ℕ) where
  name_is_whole : (gap at : ℕ) (hints : List ℕ) (ls : List (List ℕ)) (octets after : List ℕ) → length b ≤ at → AreIdle b hints
      → Compresses slot b gap at hints ls octets after → length octets ≡ encoded_size ls
  name_is_whole gap at hints [] octets after past idle h = ap length h.0
  name_is_whole gap at hints (l ∷ ls) octets after past idle (inl (hint, finds, is, same)) =
      absurd (never_found b gap hints (slot (l ∷ ls)) (l ∷ ls) hint idle finds)
  name_is_whole gap at hints (l ∷ ls) octets after past idle (inr (none, rest, split, more)) =
      let others = name_is_whole gap (at + 1 + length l) (kept_hints hints (slot (l ∷ ls)) at) ls rest after (omega (arith, past))
      (kept_idle b hints (slot (l ∷ ls)) at past idle) more in
      omega (arith, ap length split, length-append (label_wire l) rest, others, encoded_size_cons l ls)

  owner_is_whole : (hints : List ℕ) (ls : List (List ℕ)) (octets after : List ℕ) → AreIdle b hints
      → IsOwner slot b 0 hints ls octets after → length octets ≡ encoded_size ls
  owner_is_whole hints ls octets after idle (inl (near, is, same)) = absurd (never_stands b (length b) 0 ls (inl refl) near.1.1)
  owner_is_whole hints ls octets after idle (inr (not, h)) = name_is_whole (length b) (length b) hints ls octets after (omega arith) idle h

octets_are_whole : (slot : List (List ℕ) → ℕ) (b : List ℕ) (gap : ℕ) (hints : List ℕ) (xs : List Piece) (octets after : List ℕ)
    → AllByRecursion IsPlainPiece xs → ArePieces slot b gap hints xs octets after → length octets ≡ whole_pieces xs
octets_are_whole slot b gap hints [] octets after all h = ap length h.0
octets_are_whole slot b gap hints (Octets bytes ∷ xs) octets after all (own, between, others, is, split, more) =
    omega (arith, ap length split, length-append own others, ap length is.0, octets_are_whole slot (b ++ own) gap between xs others after all.1 more)
octets_are_whole slot b gap hints (Name ls ∷ xs) octets after all h = absurd all.0

no_hints : (b : List ℕ) → AreIdle b (replicate 512 0)
no_hints b i =
    inl (elim (le_or_lt 512 i) [ inl past ↦ get_or_past (replicate 512 0) i 0 (omega (arith, past)) | inr less ↦ get_or-replicate 512 i 0 0 less ])

pub last_records_are_whole : LastRecordsAreWhole
last_records_are_whole slot held r w v old new are octets (u, (own, hints, (owner, between, data_own, is, pieces, split), limit, fits, message, state), after) =
    let b = take w.end old in
    let fields = fields_of_record r.record_type r.class r.ttl in
    omega (
      arith,
      ap (λ (x : WriterState). x.end) after,
      ap (λ (x : WriterState). x.end) state,
      ap length split,
      length-append owner (before_length fields ++ (to_be_bytes w16 (length data_own) ++ data_own)),
      owner_is_whole slot b (replicate 512 0) r.owner owner between (no_hints b) is,
      octets_are_whole slot ((b ++ owner) ++ fields) (length b + length owner + (length fields - 2)) between r.pieces data_own hints octets pieces,
    )
