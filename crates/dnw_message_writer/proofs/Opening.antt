-- Labels stand only where a pointer is next, or their first octets are.
use Rattle.std.proofs.Common.{◌≡◌, ℕ, ◌+◌, ◌<◌, List, [], ◌∷◌, ◌++◌, length, get_or, sym, ap, ◌∙◌, inl, inr, arith}
use Rattle.std.specs.List.{AllByRecursion}
use Rattle.dnw_base.specs.Labels.{IsLabel}
use Rattle.dnw_base.specs.Names.{label_wire, wire}
use Rattle.dnw_base.proofs.Wires.{wire_cons}
use Rattle.dnw_message_writer.specs.declared.standing.Spot.{Spot}
use Rattle.dnw_message_writer.specs.Standing.{IsThere, StandsSettled}
use Rattle.dnw_message_writer.proofs.PiecesBack.{index_front}
use Rattle.dnw_message_writer.proofs.Places.{range_index}

module _ (b : List ℕ) (gap p : ℕ) where
  there_index : (s : Spot) (octets more : List ℕ) (k : ℕ) → s.position ≡ p → IsThere b gap s octets → k < length octets
      → get_or b (p + k) 0 ≡ get_or (octets ++ more) k 0
  there_index s octets more k here there small =
      ap (λ q. get_or b (q + k) 0) (sym here)
      ∙ (sym (range_index b s.position (length octets) k small) ∙ (ap (λ x. get_or x k 0) there.same ∙ sym (index_front octets more k small)))

  -- the first octet
  pub first_octet_is : (ls : List (List ℕ)) → StandsSettled b gap p ls → get_or b p 0 < 192 → get_or b (p + 0) 0 ≡ get_or (wire ls) 0 0
  first_octet_is [] (t, inl (leads, t_is), there) small = absurd (omega (arith, leads.marked, small))
  first_octet_is [] (t, inr (not, t_is), there) small = there_index t (0 ∷ []) [] 0 (ap (λ (x : Spot). x.position) t_is) there (omega arith)
  first_octet_is (l ∷ ls) (t, inl (leads, t_is), there, more) small = absurd (omega (arith, leads.marked, small))
  first_octet_is (l ∷ ls) (t, inr (not, t_is), there, more) small =
      there_index t (label_wire l) (wire ls) 0 (ap (λ (x : Spot). x.position) t_is) there (omega arith) ∙ ap (λ x. get_or x 0 0) (sym (wire_cons l ls))

  -- the second, which is the first of a label
  pub second_octet_is : (ls : List (List ℕ)) → AllByRecursion IsLabel ls → StandsSettled b gap p ls → get_or b p 0 < 192 → 1 < length (wire ls)
      → get_or b (p + 1) 0 ≡ get_or (wire ls) 1 0
  second_octet_is [] all stands small long = absurd (omega (arith, long))
  second_octet_is (l ∷ ls) all (t, inl (leads, t_is), there, more) small long = absurd (omega (arith, leads.marked, small))
  second_octet_is (l ∷ ls) all (t, inr (not, t_is), there, more) small long =
      there_index t (label_wire l) (wire ls) 1 (ap (λ (x : Spot). x.position) t_is) there (omega (arith, all.0.not_empty))
      ∙ ap (λ x. get_or x 1 0) (sym (wire_cons l ls))
