-- Items that are written are read back, in each later message.
use Rattle.std.proofs.Common.{◌≡◌, ℕ, ◌+◌, ◌-◌, ◌<◌, ◌≤◌, List, [], ◌∷◌, ◌++◌, length, drop, get_or, sym, ap, ◌∙◌, subst, inl, inr, refl, append_assoc, arith, length-append, length-drop}
use Rattle.std.specs.List.{AllByRecursion}
use Rattle.std.proofs.lemmas.Grind.{common_steps}
use Rattle.dnw_base.specs.Names.{AreLabels, wire}
use Rattle.dnw_name_read.specs.Reading.{NameAt}
use Rattle.dnw_message_writer.specs.CompressedNames.{MayPointTo, pointer_octets}
use Rattle.dnw_message_writer.specs.Contents.{PieceStands, PiecesStand}
use Rattle.dnw_message_writer.specs.Inside.Fitting.{HasLabels}
use Rattle.dnw_message_writer.specs.Items.{IsOwner}
use Rattle.dnw_message_writer.specs.NameLaws.{KeepsSettled}
use Rattle.dnw_message_writer.specs.Pieces.{ArePieces, IsPiece}
use Rattle.dnw_message_writer.specs.declared.pieces.Piece.{Piece}
use Rattle.dnw_message_writer.specs.declared.pieces.Piece.TheVariants.{Octets, Name}
use Rattle.dnw_message_writer.proofs.Places.{after_at, part_at, written_names_are_read}
use Rattle.dnw_message_writer.proofs.Turning.{le_or_lt}

-- ---- later messages

-- elements of two lists, one after the other
pub index_front : (a b : List ℕ) (i : ℕ) → i < length a → get_or (a ++ b) i 0 ≡ get_or a i 0
index_front a b i small = grind (arith, common_steps)

pub index_back : (a b : List ℕ) (i : ℕ) → length a ≤ i → get_or (a ++ b) i 0 ≡ get_or b (i - length a) 0
index_back a b i large = grind (arith, common_steps)

pub index_from : (a : List ℕ) (p i : ℕ) → p ≤ i → get_or a i 0 ≡ get_or (drop p a) (i - p) 0
index_from a p i large = grind (arith, common_steps)

-- the octets that a later message has at the end of this one
index_later : (b later own more : List ℕ) (i : ℕ) → drop (length b) later ≡ own ++ more → length b ≤ i → i < length b + length own
    → get_or later i 0 ≡ get_or (b ++ own) i 0
index_later b later own more i at large small =
    index_from later (length b) i large ∙ (ap (λ x. get_or x (i - length b) 0) at
    ∙ (index_front own more (i - length b) (omega (arith, large, small)) ∙ sym (index_back b own i large)))

-- A later message that keeps the settled octets of this one, and begins there as this one goes on, keeps those of both.
pub keeps_more : (gap : ℕ) (b later own more : List ℕ) → KeepsSettled gap b later → drop (length b) later ≡ own ++ more
    → KeepsSettled gap (b ++ own) later
keeps_more gap b later own more keeps at =
    let longer : length b ≤ length later = keeps.longer in
    let size = ap length at in
    record {
      longer = omega (arith, longer, size, length-drop (length b) later, length-append own more, length-append b own);
      same = λ i after small apart.
          elim (le_or_lt (length b) i) [
            | inl large ↦ index_later b later own more i at large (omega (arith, small, length-append b own))
            | inr less ↦ keeps.same i after less apart ∙ sym (index_front b own i less)
          ];
    }

-- two octets more may be others
pub keeps_gap : (b later two : List ℕ) → KeepsSettled (length b) b later → length two ≡ 2 → length b + 2 ≤ length later
    → KeepsSettled (length b) (b ++ two) later
keeps_gap b later two keeps size longer =
    let sum = length-append b two in
    record {
      longer = omega (arith, sum, size, longer);
      same = λ i after small apart.
          elim apart [
            | inl less ↦ keeps.same i after less (inl less) ∙ sym (index_front b two i less)
            | inr past ↦ absurd (omega (arith, past, small, sum, size))
          ];
    }

-- if nothing is unsettled, the gap may be the end of both
keeps_whole : (b later own : List ℕ) → KeepsSettled (length b) (b ++ own) later → ((i : ℕ) → 12 ≤ i → length b ≤ i → i < length (b ++ own) → get_or later i 0 ≡ get_or (b ++ own) i 0)
    → KeepsSettled (length (b ++ own)) (b ++ own) later
keeps_whole b later own keeps more = record {
  longer = keeps.longer;
  same = λ i after small apart.
      elim (le_or_lt (length b) i) [
        | inl large ↦ more i after large small
        | inr less ↦ keeps.same i after small (inl less)
      ];
}

pub keeps_all_more : (b later own more : List ℕ) → KeepsSettled (length b) b later → drop (length b) later ≡ own ++ more
    → KeepsSettled (length (b ++ own)) (b ++ own) later
keeps_all_more b later own more keeps at =
    keeps_whole b later own (keeps_more (length b) b later own more keeps at)
    (λ i after large small. index_later b later own more i at large (omega (arith, small, length-append b own)))

-- ---- owners

some_labels : (ls : List (List ℕ)) → 1 < length (wire ls) → ls ≡ [] → ⊥
some_labels ls long none = omega (arith, long, ap (λ (x : List (List ℕ)). length (wire x)) none)

module _ (slot : List (List ℕ) → ℕ) where
  near_read : (b : List ℕ) (near : ℕ) (ls : List (List ℕ)) (octets later more : List ℕ) → AreLabels ls → 1 < length (wire ls)
      → MayPointTo b (length b) near ls → octets ≡ pointer_octets near → KeepsSettled (length b) b later → drop (length b) later ≡ octets ++ more
      → (k : ℕ) × NameAt later (length b) ls (length b + length octets) k × (k ≤ length ls + 2)
  near_read b near [] octets later more are long usable is keeps at = absurd (omega (arith, long))
  near_read b near (l ∷ ls) octets later more are long usable is keeps at =
      written_names_are_read (λ x. 0) b (length b) (near ∷ []) (l ∷ ls) octets (near ∷ []) later more are (inl (near, (usable, inl refl), is, refl)) keeps at

  pub owner_read : (b : List ℕ) (near : ℕ) (hints : List ℕ) (ls : List (List ℕ)) (octets after later more : List ℕ) → AreLabels ls
      → IsOwner slot b near hints ls octets after → KeepsSettled (length b) b later → drop (length b) later ≡ octets ++ more
      → (k : ℕ) × NameAt later (length b) ls (length b + length octets) k × (k ≤ length ls + 2)
  owner_read b near hints ls octets after later more are (inl (usable, is, same)) keeps at =
      near_read b near ls octets later more are usable.0 usable.1 is keeps at
  owner_read b near hints ls octets after later more are (inr (not, h)) keeps at =
      written_names_are_read slot b (length b) hints ls octets after later more are h keeps at

  -- ---- pieces

  piece_read : (gap : ℕ) (b hints : List ℕ) (x : Piece) (octets after later more : List ℕ) → HasLabels x
      → IsPiece slot b gap hints x octets after → KeepsSettled gap b later → drop (length b) later ≡ octets ++ more
      → PieceStands later (length b) x (length b + length octets)
  piece_read gap b hints (Octets bytes) octets after later more labels h keeps at = (
    omega (arith, ap length h.0),
    part_at later (length b) octets more at ∙ h.0,
  )
  piece_read gap b hints (Name ls) octets after later more labels h keeps at =
      let (k, read, few) = written_names_are_read slot b gap hints ls octets after later more labels h keeps at in
      (k, read)

  pub pieces_read : (gap : ℕ) (b hints : List ℕ) (xs : List Piece) (octets after later more : List ℕ) → AllByRecursion HasLabels xs
      → ArePieces slot b gap hints xs octets after → KeepsSettled gap b later → drop (length b) later ≡ octets ++ more
      → PiecesStand later (length b) xs (length b + length octets)
  pieces_read gap b hints [] octets after later more labels h keeps at = omega (arith, ap length h.0)
  pieces_read gap b hints (x ∷ xs) octets after later more labels (own, between, others, is, split, rest) keeps at =
      let here : drop (length b) later ≡ own ++ (others ++ more) = at ∙ (ap (λ o. o ++ more) split ∙ append_assoc own others more) in
      let size : length (b ++ own) ≡ length b + length own = length-append b own in
      let next : drop (length (b ++ own)) later ≡ others ++ more = after_at later (length b) (length (b ++ own)) own (others ++ more) here size in
      let end : length (b ++ own) + length others ≡ length b + length octets = omega (arith, size, ap length split, length-append own others) in (
        length b + length own,
        piece_read gap b hints x own between later (others ++ more) labels.0 is keeps here,
        subst (λ q. PiecesStand later q xs (length b + length octets)) size
            (subst (λ e. PiecesStand later (length (b ++ own)) xs e) end
            (pieces_read gap (b ++ own) between xs others after later more labels.1 rest (keeps_more gap b later own (others ++ more) keeps here) next)),
      )
