-- Labels that stand in a message while it is written.
use Rattle.std.proofs.Common.{◌≡◌, ◌↔◌, ℕ, ◌+◌, ◌≤◌, List, [], ◌∷◌, length, take, sym, ◌∙◌, subst, inl, inr, arith}
use Rattle.std.proofs.lemmas.List.{take_at}
use Rattle.dnw_base.specs.Names.{label_wire, wire}
use Rattle.dnw_base.proofs.Wires.{wire_cons}
use Rattle.dnw_message_writer.specs.declared.standing.Spot.{Spot}
use Rattle.dnw_message_writer.specs.Standing.{FollowsPointer, IsThere, StandsFrom, after_octets}

module _ (b : List ℕ) (gap : ℕ) where
  -- there is one place where a reading goes on
  follows_one : (s t u : Spot) → FollowsPointer b gap s t → FollowsPointer b gap s u → t ≡ u
  follows_one s t u (inl (leads, t_is)) (inl (other, u_is)) = t_is ∙ sym u_is
  follows_one s t u (inl (leads, t_is)) (inr (not, u_is)) = absurd (not leads)
  follows_one s t u (inr (not, t_is)) (inl (leads, u_is)) = absurd (not leads)
  follows_one s t u (inr (not, t_is)) (inr (other, u_is)) = t_is ∙ sym u_is

  -- no labels stand if the closing zero is next
  pub stands_end : (s t : Spot) → FollowsPointer b gap s t → IsThere b gap t (0 ∷ []) ↔ StandsFrom b gap s []
  stands_end s t f = (
    λ there. (t, f, there),
    λ (u, g, there). subst (λ x. IsThere b gap x (0 ∷ [])) (follows_one s u t g f) there,
  )

  -- labels stand if the first is next and the others stand after it
  pub stands_label : (s t : Spot) (l : List ℕ) (ls : List (List ℕ)) → FollowsPointer b gap s t
      → (IsThere b gap t (label_wire l) × StandsFrom b gap (after_octets t (length l + 1)) ls) ↔ StandsFrom b gap s (l ∷ ls)
  stands_label s t l ls f = (
    λ (there, more). (t, f, there, more),
    λ (u, g, there, more).
        let same = follows_one s u t g f in (
          subst (λ x. IsThere b gap x (label_wire l)) same there,
          subst (λ x. StandsFrom b gap (after_octets x (length l + 1)) ls) same more,
        ),
  )

  -- a reading stays within the message, and goes on in its segment
  pub follows_inside : (s t : Spot) → s.limit ≤ length b → s.segment ≤ s.position → FollowsPointer b gap s t
      → (t.limit ≤ length b) × (t.segment ≤ t.position)
  follows_inside s t limit order (inl (leads, t_is)) =
      subst (λ (x : Spot). (x.limit ≤ length b) × (x.segment ≤ x.position)) (sym t_is) (omega (arith, leads.before), omega arith)
  follows_inside s t limit order (inr (not, t_is)) =
      subst (λ (x : Spot). (x.limit ≤ length b) × (x.segment ≤ x.position)) (sym t_is) (limit, order)

-- the first octets of a wire form are those of the first label
pub first_octets : (all ls : List (List ℕ)) (l : List ℕ) → all ≡ l ∷ ls → take (length l + 1) (wire all) ≡ label_wire l
first_octets all ls l is = rw (is, wire_cons l ls) (take_at (label_wire l) (wire ls) (length l + 1) (omega arith))

-- One step of a reading: what is left begins with this label, and its octets are compared with what is next.
module _ (b : List ℕ) (gap : ℕ) (s t : Spot) (all ls : List (List ℕ)) (l form : List ℕ) (f : FollowsPointer b gap s t)
    (split : all ≡ l ∷ ls) (form_is : form ≡ wire all) where
  octets_are : take (length l + 1) form ≡ label_wire l
  octets_are = rw form_is (first_octets all ls l split)

  -- other octets are next
  pub stands_not : (IsThere b gap t (take (length l + 1) form) → ⊥) → StandsFrom b gap s all → ⊥
  stands_not not stands =
      let parts = (stands_label b gap s t l ls f).1 (subst (λ x. StandsFrom b gap s x) split stands) in
      not (subst (λ x. IsThere b gap t x) (sym octets_are) parts.0)

  -- these octets are next
  pub stands_on : IsThere b gap t (take (length l + 1) form) → StandsFrom b gap s all ↔ StandsFrom b gap (after_octets t (length l + 1)) ls
  stands_on there = (
    λ stands. ((stands_label b gap s t l ls f).1 (subst (λ x. StandsFrom b gap s x) split stands)).1,
    λ more.
        subst (λ x. StandsFrom b gap s x) (sym split)
        ((stands_label b gap s t l ls f).0 (subst (λ x. IsThere b gap t x) octets_are there, more)),
  )
