-- Pieces that are written in turn.
use Rattle.std.proofs.Common.{◌≡◌, ℕ, suc, ◌+◌, ◌<◌, ◌≤◌, List, [], ◌∷◌, ◌++◌, length, take, drop, drop-cons, get_or, add-one, refl, sym, ap, ◌∙◌, subst, inl, inr, append_assoc, arith, length-append}
use Rattle.std.proofs.lemmas.List.{append-nil, length-take-le, take_at}
use Rattle.dnw_message_writer.specs.CompressedNames.{PutsForm, PutsPast, put_at}
use Rattle.dnw_message_writer.specs.Inside.Going.{Gone}
use Rattle.dnw_message_writer.specs.Pieces.{ArePieces, GoesPast, IsPiece}
use Rattle.dnw_message_writer.specs.declared.pieces.Piece.{Piece}
use Rattle.dnw_message_writer.proofs.Puts.{length_put_at, put_at_put_at}

-- what the message has up to the end of octets that were put
pub take_put_at : (m : List ℕ) (p q : ℕ) (a : List ℕ) → q ≡ p + length a → p ≤ length m → take q (put_at m p a) ≡ take p m ++ a
take_put_at m p q a end within =
    ap (take q) (sym (append_assoc (take p m) a (drop (p + length a) m)))
    ∙ take_at (take p m ++ a) (drop (p + length a) m) q (omega (arith, end, length-append (take p m) a, length-take-le p m within))

-- and before them
pub take_before : (m : List ℕ) (p : ℕ) (a : List ℕ) → p ≤ length m → take p (put_at m p a) ≡ take p m
take_before m p a within = take_at (take p m) (a ++ drop (p + length a) m) p (length-take-le p m within)

module _ (slot : List (List ℕ) → ℕ) (limit : ℕ) (old : List ℕ) (at gap : ℕ) (first : List ℕ) (pieces : List Piece) (room : at ≤ limit)
    (inside : limit ≤ length old) where
  pub gone_nothing : Gone slot limit old at gap first pieces (put_at old at []) at first pieces
  gone_nothing = record {
    own = [];
    message_is = refl;
    end_is = omega arith;
    fits = room;
    goes_on = λ octets after h. subst (λ b. ArePieces slot b gap first pieces octets after) (append-nil (take at old)) h;
    past = λ h. subst (λ b. GoesPast slot limit b gap first pieces) (append-nil (take at old)) h;
  }

  module _ {message hints : List ℕ} {end : ℕ} {left : List Piece} (g : Gone slot limit old at gap first pieces message end hints left) where
    within : at ≤ length old
    within = omega (arith, room, inside)

    so_far : take end message ≡ take at old ++ g.own
    so_far = ap (take end) g.message_is ∙ take_put_at old at end g.own g.end_is within

    -- one more piece is written
    pub gone_on : (x : Piece) (xs : List Piece) (new after : List ℕ) (next : ℕ) → left ≡ x ∷ xs
        → PutsForm (λ octets. IsPiece slot (take end message) gap hints x octets after) message end new next → next ≤ limit
        → Gone slot limit old at gap first pieces new next after xs
    gone_on x xs new after next split (octets, is, new_is, next_is) fits =
        let here : IsPiece slot (take at old ++ g.own) gap hints x octets after = subst (λ b. IsPiece slot b gap hints x octets after) so_far is in
        let more : take at old ++ (g.own ++ octets) ≡ (take at old ++ g.own) ++ octets = sym (append_assoc (take at old) g.own octets) in
        record {
          own = g.own ++ octets;
          message_is = new_is ∙ (ap (λ m. put_at m end octets) g.message_is ∙ put_at_put_at old at end g.own octets g.end_is within);
          end_is = omega (arith, next_is, g.end_is, length-append g.own octets);
          fits = fits;
          goes_on = λ others done h.
              subst (λ o. ArePieces slot (take at old) gap first pieces o done) (sym (append_assoc g.own octets others))
              (g.goes_on (octets ++ others) done
              (subst (λ ps. ArePieces slot (take at old ++ g.own) gap hints ps (octets ++ others) done) (sym split)
              (octets, after, others, here, refl, subst (λ b. ArePieces slot b gap after xs others done) more h)));
          past = λ h.
              g.past
              (subst (λ ps. GoesPast slot limit (take at old ++ g.own) gap hints ps) (sym split)
              (octets, after, here, inr (subst (λ b. GoesPast slot limit b gap after xs) more h)));
        }

    -- one more piece would go past the limit
    pub gone_past : (x : Piece) (xs : List Piece) (after : List ℕ) → left ≡ x ∷ xs
        → PutsPast (λ octets. IsPiece slot (take end message) gap hints x octets after) end limit
        → GoesPast slot limit (take at old) gap first pieces
    gone_past x xs after split (octets, is, past) =
        let here : IsPiece slot (take at old ++ g.own) gap hints x octets after = subst (λ b. IsPiece slot b gap hints x octets after) so_far is in
        let size : length (take at old ++ g.own) ≡ end = omega (arith, length-append (take at old) g.own, length-take-le at old within, g.end_is) in
        g.past
        (subst (λ ps. GoesPast slot limit (take at old ++ g.own) gap hints ps) (sym split) (octets, after, here, inl (omega (arith, past, size))))

    -- all pieces are written
    pub gone_all : left ≡ [] → PutsForm (λ octets. ArePieces slot (take at old) gap first pieces octets hints) old at message end
    gone_all none = (
      g.own,
      subst (λ o. ArePieces slot (take at old) gap first pieces o hints) (append-nil g.own)
          (g.goes_on [] hints (subst (λ ps. ArePieces slot (take at old ++ g.own) gap hints ps [] hints) (sym none) (refl, refl))),
      g.message_is,
      g.end_is,
    )

    pub gone_before : take at message ≡ take at old
    gone_before = ap (take at) g.message_is ∙ take_before old at g.own within

    pub gone_size : length message ≡ length old
    gone_size = ap length g.message_is ∙ length_put_at old at g.own (omega (arith, g.fits, g.end_is, inside))

-- what is left begins with the item at its index
pub left_from : {A : Type 0} (xs : List A) (i : ℕ) (x : A) → i < length xs → x ≡ get_or xs i x → drop i xs ≡ x ∷ drop (i + 1) xs
left_from xs i x inside is = rw add-one (drop-cons xs i x inside ∙ ap (λ y. y ∷ drop (suc i) xs) (sym is))
