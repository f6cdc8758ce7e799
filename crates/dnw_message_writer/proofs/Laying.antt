-- Items whose parts are put one after the other.
use Rattle.std.proofs.Common.{◌≡◌, ℕ, ◌+◌, ◌-◌, ◌≤◌, List, ◌++◌, length, take, drop, sym, ap, ◌∙◌, subst, inr, append_assoc, arith, length-append}
use Rattle.std.specs.Int.{w16, to_be_bytes}
use Rattle.std.proofs.lemmas.Grind.{common_steps}
use Rattle.std.proofs.lemmas.List.{drop-drop, drop_at, length-take-le, take_at, take-append-drop}
use Rattle.dnw_message_writer.specs.CompressedNames.{PutsForm, put_at}
use Rattle.dnw_message_writer.specs.Items.{IsOwner, IsQuestion, IsRecord, RecordGoesPast, before_length, question_fields}
use Rattle.dnw_message_writer.specs.Pieces.{ArePieces, GoesPast}
use Rattle.dnw_message_writer.specs.declared.pieces.Piece.{Piece}
use Rattle.dnw_message_writer.proofs.Going.{take_before, take_put_at}
use Rattle.dnw_message_writer.proofs.Puts.{length_put_at, put_at_put_at}

pub take_less : (a s : ℕ) (xs : List ℕ) → a ≤ s → take a (take s xs) ≡ take a xs
take_less a s xs less = grind (arith, common_steps)

-- octets that are put over some that were put
pub put_at_inside : (m : List ℕ) (p q : ℕ) (a x y c : List ℕ) → length x ≡ length y → q ≡ p + length a → p ≤ length m
    → put_at (put_at m p (a ++ (x ++ c))) q y ≡ put_at m p (a ++ (y ++ c))
put_at_inside m p q a x y c same q_is within =
    let rest = drop (p + length (a ++ (x ++ c))) m in
    let front = take p m ++ a in
    let size : length front ≡ q = omega (arith, q_is, length-append (take p m) a, length-take-le p m within) in
    let split : put_at m p (a ++ (x ++ c)) ≡ front ++ (x ++ (c ++ rest)) =
    ap (λ o. take p m ++ o) (append_assoc a (x ++ c) rest ∙ ap (λ o. a ++ o) (append_assoc x c rest)) ∙ sym (append_assoc (take p m) a (x ++ (c ++ rest))) in
    let head : take q (put_at m p (a ++ (x ++ c))) ≡ front = ap (take q) split ∙ take_at front (x ++ (c ++ rest)) q size in
    let tail : drop (q + length y) (put_at m p (a ++ (x ++ c))) ≡ c ++ rest =
    sym (drop-drop (length y) q (put_at m p (a ++ (x ++ c)))) ∙ (ap (λ o. drop (length y) (drop q o)) split
    ∙ (ap (drop (length y)) (drop_at front (x ++ (c ++ rest)) q size) ∙ drop_at x (c ++ rest) (length y) same)) in
    let ends : drop (p + length (a ++ (x ++ c))) m ≡ drop (p + length (a ++ (y ++ c))) m =
    ap (λ n. drop n m) (omega (arith, same, length-append a (x ++ c), length-append x c, length-append a (y ++ c), length-append y c)) in
    rw (head, tail)
    (append_assoc (take p m) a (y ++ (c ++ rest))
    ∙ ap (λ o. take p m ++ o) (sym (append_assoc a (y ++ c) rest ∙ ap (λ o. a ++ o) (append_assoc y c rest)) ∙ ap (λ r. (a ++ (y ++ c)) ++ r) ends))

module _ (slot : List (List ℕ) → ℕ) (limit : ℕ) (old : List ℕ) (at near : ℕ) (hints : List ℕ) (ls : List (List ℕ)) (between : List ℕ)
    (inside : limit ≤ length old) (room : at ≤ limit) where
  within : at ≤ length old
  within = omega (arith, inside, room)

  module _ (first : List ℕ) (end : ℕ) (owned : PutsForm (λ octets. IsOwner slot (take at old) near hints ls octets between) old at first end) (fits : end ≤ limit) where
    -- fields after the owner
    fields_put : (second fields : List ℕ) → second ≡ put_at first end fields → second ≡ put_at old at (owned.0 ++ fields)
    fields_put second fields is = is ∙ (ap (λ m. put_at m end fields) owned.2 ∙ put_at_put_at old at end owned.0 fields owned.3 within)

    first_size : length first ≡ length old
    first_size = ap length owned.2 ∙ length_put_at old at owned.0 (omega (arith, owned.3, fits, inside))

    so_far : (second fields : List ℕ) (start : ℕ) → second ≡ put_at first end fields → start ≡ end + length fields
        → take start second ≡ (take at old ++ owned.0) ++ fields
    so_far second fields start is start_is =
        ap (take start) is ∙ (take_put_at first end start fields start_is (omega (arith, first_size, fits, inside))
        ∙ ap (λ o. o ++ fields) (ap (take end) owned.2 ∙ take_put_at old at end owned.0 owned.3 within))

    pub question_laid : (query_type class : ℕ) (second fields : List ℕ) (last : ℕ) → fields ≡ question_fields query_type class
        → second ≡ put_at first end fields → last ≡ end + length fields
        → PutsForm (λ octets. IsQuestion slot (take at old) near hints ls query_type class octets between) old at second last
    question_laid query_type class second fields last fields_are is last_is = (
      owned.0 ++ fields,
      (owned.0, owned.1, ap (λ f. owned.0 ++ f) fields_are),
      fields_put second fields is,
      omega (arith, last_is, owned.3, length-append owned.0 fields),
    )

    -- Data after the fields, and the length of the data over the last two octets of these.
    module _ (second fields : List ℕ) (start : ℕ) (pieces : List Piece) (is : second ≡ put_at first end fields) (start_is : start ≡ end + length fields)
        (ten : length fields ≡ 10) where
      gap_is : start - 2 ≡ length (take at old) + length owned.0 + (length fields - 2)
      gap_is = omega (arith, start_is, owned.3, ten, length-take-le at old within)

      pub record_past : GoesPast slot limit (take start second) (start - 2) between pieces
          → RecordGoesPast slot limit (take at old) near hints ls fields pieces
      record_past past = (
        owned.0,
        between,
        owned.1,
        inr (subst (λ b. GoesPast slot limit b (length (take at old) + length owned.0 + (length fields - 2)) between pieces) (so_far second fields start is start_is)
            (rw gap_is at past)),
      )

      pub record_laid : (after third fourth length_octets : List ℕ) (last : ℕ)
          → PutsForm (λ octets. ArePieces slot (take start second) (start - 2) between pieces octets after) second start third last
          → length_octets ≡ to_be_bytes w16 (last - start) → fourth ≡ put_at third (start - 2) length_octets
          → PutsForm (λ octets. IsRecord slot (take at old) near hints ls fields pieces octets after) old at fourth last
      record_laid after third fourth length_octets last (own, are, third_is, last_is) length_is fourth_is =
          let owner = owned.0 in
          let front = owner ++ before_length fields in
          let two = drop (length fields - 2) fields in
          let parts : fields ≡ before_length fields ++ two = sym (take-append-drop (length fields - 2) fields) in
          let front_size : length (before_length fields) ≡ 8 = omega (arith, ten, length-take-le (length fields - 2) fields (omega arith)) in
          let two_size : length two ≡ 2 = omega (arith, ten, ap length parts, length-append (before_length fields) two, front_size) in
          let bytes : length_octets ≡ to_be_bytes w16 (length own) = length_is ∙ ap (to_be_bytes w16) (omega (arith, last_is)) in
          let bytes_size : length length_octets ≡ 2 = ap length bytes in
          let third_old : third ≡ put_at old at ((owner ++ fields) ++ own) =
          third_is ∙ (ap (λ m. put_at m start own) (fields_put second fields is)
          ∙ put_at_put_at old at start (owner ++ fields) own (omega (arith, start_is, owned.3, length-append owner fields)) within) in
          let regroup : (owner ++ fields) ++ own ≡ front ++ (two ++ own) =
          ap (λ f. (owner ++ f) ++ own) parts ∙ (ap (λ o. o ++ own) (sym (append_assoc owner (before_length fields) two)) ∙ append_assoc front two own) in
          let place : start - 2 ≡ at + length front = omega (arith, start_is, owned.3, ten, length-append owner (before_length fields), front_size) in
          let done : fourth ≡ put_at old at (front ++ (length_octets ++ own)) =
          fourth_is ∙ (ap (λ m. put_at m (start - 2) length_octets) (third_old ∙ ap (put_at old at) regroup)
          ∙ put_at_inside old at (start - 2) front two length_octets own (omega (arith, two_size, bytes_size)) place within) in
          let form : front ++ (length_octets ++ own) ≡ owner ++ (before_length fields ++ (to_be_bytes w16 (length own) ++ own)) =
          append_assoc owner (before_length fields) (length_octets ++ own) ∙ ap (λ o. owner ++ (before_length fields ++ (o ++ own))) bytes in
          let data_are : ArePieces slot ((take at old ++ owner) ++ fields) (length (take at old) + length owner + (length fields - 2)) between pieces own after =
          subst (λ b. ArePieces slot b (length (take at old) + length owner + (length fields - 2)) between pieces own after) (so_far second fields start is start_is)
          (rw gap_is at are) in (
            front ++ (length_octets ++ own),
            (owner, between, own, owned.1, data_are, form),
            done,
            omega (
              arith,
              last_is,
              start_is,
              owned.3,
              ten,
              length-append front (length_octets ++ own),
              length-append length_octets own,
              length-append owner (before_length fields),
              front_size,
              bytes_size,
            ),
          )

      -- what was before the record stays
      pub record_before : (third : List ℕ) → take start third ≡ take start second → take at third ≡ take at old
      record_before third same =
          let before : at ≤ start = omega (arith, start_is, owned.3) in
          sym (take_less at start third before) ∙ (ap (take at) same ∙ (take_less at start second before
          ∙ (ap (take at) (fields_put second fields is) ∙ take_before old at (owned.0 ++ fields) within)))
