-- Wire forms that stand in one piece.
use Rattle.std.proofs.Common.{◌≡◌, ℕ, ◌+◌, ◌≤◌, List, [], ◌∷◌, ◌++◌, length, drop, ap, ◌∙◌, subst, inl, inr, refl, append_assoc, arith, length-append}
use Rattle.std.specs.List.{AllByRecursion}
use Rattle.std.proofs.lemmas.Option.{get_or_from_slice_get}
use Rattle.dnw_base.specs.Labels.{IsLabel}
use Rattle.dnw_base.specs.Names.{label_wire, labels_wire, wire}
use Rattle.dnw_base.proofs.Wires.{wire_cons}
use Rattle.dnw_message_writer.specs.declared.standing.Spot.{Spot}
use Rattle.dnw_message_writer.specs.Standing.{FollowsPointer, IsThere, LeadsBack, StandsFrom, after_octets}
use Rattle.dnw_message_writer.specs.NameLaws.{KeepsSettled}
use Rattle.dnw_message_writer.proofs.Places.{after_at, octet_at, part_at, there_later}

module _ (b : List ℕ) (gap : ℕ) where
  keeps_itself : KeepsSettled gap b b
  keeps_itself = record { longer = omega arith; same = λ i after inside apart. refl }

  -- a wire form begins with no pointer
  no_pointer : (s : Spot) (ls : List (List ℕ)) (more : List ℕ) → AllByRecursion IsLabel ls → drop s.position b ≡ wire ls ++ more
      → LeadsBack b gap s → ⊥
  no_pointer s [] more all here leads =
      let first = get_or_from_slice_get b s.position 0 0 (octet_at b s.position 0 more here) in
      omega (arith, leads.marked, first)
  no_pointer s (l ∷ ls) more all here leads =
      let first = get_or_from_slice_get b s.position (length l) 0 (octet_at b s.position (length l) _ (here ∙ ap (λ x. x ++ more) (wire_cons l ls))) in
      omega (arith, leads.marked, first, all.0.not_long)

  -- a part of octets that are there
  part_there : (t : Spot) (front back : List ℕ) → IsThere b gap t (front ++ back) → IsThere b gap t front
  part_there t front back there =
      let size = length-append front back in
      let inside = there.settled.inside in
      let at = there_later b b gap keeps_itself t (front ++ back) there in
      record {
        before = there.before;
        settled = record {
          inside = omega (arith, inside, size);
          after_header = there.settled.after_header;
          apart = elim there.settled.apart [ inl before ↦ inl (omega (arith, before, size)) | inr behind ↦ inr behind ];
        };
        same = part_at b t.position front _ (at ∙ append_assoc front back _);
      }

  -- and what is after it
  rest_there : (t : Spot) (front back : List ℕ) (n : ℕ) → n ≡ length front → IsThere b gap t (front ++ back)
      → t.position + length (front ++ back) ≤ t.limit → 1 ≤ length back → IsThere b gap (after_octets t n) back
  rest_there t front back n n_is there fits some =
      let size = length-append front back in
      let inside = there.settled.inside in
      let header = there.settled.after_header in
      let at = there_later b b gap keeps_itself t (front ++ back) there in
      record {
        before = omega (arith, fits, size, some, n_is);
        settled = record {
          inside = omega (arith, inside, size, n_is);
          after_header = omega (arith, header);
          apart = elim there.settled.apart [ inl before ↦ inl (omega (arith, before, size, n_is)) | inr behind ↦ inr (omega (arith, behind)) ];
        };
        same = part_at b (t.position + n) back _
            (after_at b t.position (t.position + n) front _ (at ∙ append_assoc front back _) (omega (arith, n_is)));
      }

  -- the labels of a wire form that is there stand
  pub whole_stands : (s t : Spot) (ls : List (List ℕ)) → FollowsPointer b gap s t → AllByRecursion IsLabel ls → IsThere b gap t (wire ls)
      → t.position + length (wire ls) ≤ t.limit → StandsFrom b gap s ls
  whole_stands s t [] f all there fits = (t, f, there)
  whole_stands s t (l ∷ ls) f all there fits =
      let parts = wire_cons l ls in
      let n = length l + 1 in
      let whole : IsThere b gap t (label_wire l ++ wire ls) = subst (λ o. IsThere b gap t o) parts there in
      let room : t.position + length (label_wire l ++ wire ls) ≤ t.limit = subst (λ (o : List ℕ). t.position + length o ≤ t.limit) parts fits in
      let size = length-append (label_wire l) (wire ls) in
      let last = length-append (labels_wire ls) (0 ∷ []) in
      let next = after_octets t n in
      let rest : IsThere b gap next (wire ls) = rest_there t (label_wire l) (wire ls) n (omega arith) whole room (omega (arith, last)) in
      let at = there_later b b gap keeps_itself next (wire ls) rest in (
        t,
        f,
        part_there t (label_wire l) (wire ls) whole,
        whole_stands next next ls (inr (no_pointer next ls _ all.1 at, refl)) all.1 rest (omega (arith, room, size)),
      )
