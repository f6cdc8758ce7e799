-- Candidates of a tag, linked in a ring: one more is linked, and a search goes along it.
use Rattle.std.proofs.Common.{◌≡◌, ◌≢◌, ℕ, zero, suc, ◌+◌, ◌-◌, ◌<◌, ◌≤◌, List, [], length, get_or, replicate, set, refl, sym, take, ap, ◌∙◌, Option, Some, None, IfSome, ⊎_elim, arith}
use Rattle.std.proofs.lemmas.List.{get_or-take, get_or_default, get_or-set_same, get_or-set_other, length-set, take-take}
use Rattle.std.proofs.lemmas.Bool.Decides.{leb_tells, eqb_tells}
use Rattle.dnw_base.specs.Names.{labels_wire}
use Rattle.dnw_write_suffixes.specs.Candidates.{Candidate}
use Rattle.dnw_write_suffixes.specs.Inside.TagTable.{AreRinged, AreTagged, FindsNext, IsRing, NoneBefore, place, tag_at}

-- ---- no candidate

-- each of so many tags has 0
pub zeros : (n t : ℕ) → ◌≡◌ {A = ℕ} (get_or (replicate n 0) t 0) 0
zeros zero t = refl
zeros (suc n) zero = refl
zeros (suc n) (suc t) = zeros n t

-- no tag has a last candidate
pub none_linked : (tags : ℕ) (tag_of : List ℕ → ℕ) (last next : List ℕ) (cs : List Candidate)
    → ((t : ℕ) → t < tags → get_or last t 0 ≡ 0) → AreTagged tags tag_of last next 0 cs
none_linked tags tag_of last next cs none = record {
  few = omega arith;
  linked = record {
    whatever = λ all front t below. rw (none t below) (record {
      few = omega arith;
      some = λ h. absurd (omega arith);
      none = λ i from to. absurd (omega arith);
      first = λ h. absurd (omega arith);
      each = λ i h. absurd (omega arith);
    });
  };
}

-- ---- one more candidate

-- Its tag is s. Its link leads to the first one of its tag, and the one that was the last leads to it.
pub record LinksOne (T : ℕ → ℕ) (last next links : List ℕ) (s n : ℕ) : Type 0 where
  pub new : FindsNext T (n + 1) s 0 (Some (get_or links n 0))
  pub prior : (i : ℕ) → i + 1 ≡ get_or last s 0 → get_or links i 0 ≡ n
  pub old : (i : ℕ) → i ≢ n → i + 1 ≢ get_or last s 0 → get_or links i 0 ≡ get_or next i 0

module _ (tags : ℕ) (T : ℕ → ℕ) (last next : List ℕ) (s n : ℕ) (is : T n ≡ s) (small : s < tags) (room : n < length next)
    (all : AreRinged tags last next n T) where
  more : {t from : ℕ} (i : ℕ) → FindsNext T n t from (Some i) → FindsNext T (n + 1) t from (Some i)
  more i f = record { some = (omega (arith, f.some.0), f.some.1); order = f.order; none = f.none }

  -- it is the next one after the one that was the last
  newest : (from : ℕ) → get_or last s 0 ≤ from → from ≤ n → FindsNext T (n + 1) s from (Some n)
  newest from past low = record { some = (omega arith, is); order = low; none = λ i later. (all s small).none i (omega arith) }

  -- the first one of its tag leads to itself
  pub begins : get_or last s 0 ≡ 0 → LinksOne T last next (set next n n) s n
  begins none = record {
    new = rw (get_or-set_same next n n 0 room) (newest 0 (omega arith) (omega arith));
    prior = λ i e. absurd (omega arith);
    old = λ i off _. get_or-set_other next n i n 0 off;
  }

  -- another one leads to where the last one led
  pub grows : get_or last s 0 ≢ 0
      → LinksOne T last next (set (set next n (get_or next (get_or last s 0 - 1) 0)) (get_or last s 0 - 1) n) s n
  grows some =
      let ring = all s small in
      let l = get_or last s 0 - 1 in
      let first = get_or next l 0 in
      let before : l < n = omega (arith, ring.few) in
      let after : n ≢ l = omega arith in
      let size : l < length (set next n first) = omega (arith, length-set {A = ℕ}) in
      record {
        new = rw (get_or-set_other (set next n first) l n n 0 after, get_or-set_same next n first 0 room)
            (more first (ring.first (omega arith)));
        prior = λ i e. let at : i ≡ l = omega arith in rw at (get_or-set_same (set next n first) l n 0 size);
        old = λ i off other.
            let apart : i ≢ l = omega arith in
            get_or-set_other (set next n first) l i n 0 apart ∙ get_or-set_other next n i first 0 off;
      }

  module _ (links : List ℕ) (size : length last ≡ tags) (one : LinksOne T last next links s n) where
    own_ring : IsRing T links (n + 1) s (n + 1)
    own_ring =
        let ring = all s small in
        let here : n + 1 - 1 ≡ n = omega arith in
        record {
          few = omega arith;
          some = λ _. rw here is;
          none = λ i from to. absurd (omega arith);
          first = λ _. rw here one.new;
          each = λ i less same.
              ⊎_elim
              (λ (_, e). rw (one.prior i e) (newest (i + 1) (omega arith) (omega arith)))
              (λ (_, other).
              let off : i ≢ n = omega arith in
              let early : i + 1 < get_or last s 0 = grind (arith, ring.none i) in
              rw (one.old i off other) (more (get_or next i 0) (ring.each i early same)))
              (eqb_tells (i + 1) (get_or last s 0));
        }

    -- what another tag has of the links is unchanged
    other_ring : (t : ℕ) → t ≢ s → IsRing T next n t (get_or last t 0) → IsRing T links (n + 1) t (get_or last t 0)
    other_ring t other ring =
        let apart : (i : ℕ) → T i ≡ t → i + 1 ≢ get_or last s 0 = λ i same e.
        let at : get_or last s 0 - 1 ≡ i = omega arith in
        other (sym same ∙ (rw at at ((all s small).some (omega arith)))) in
        record {
          few = omega (arith, ring.few);
          some = ring.some;
          none = λ i from to same. ⊎_elim (λ (_, e). other (sym same ∙ (ap T e ∙ is)))
              (λ (_, off). ring.none i from (omega arith) same) (eqb_tells i n);
          first = λ h.
              let at : get_or last t 0 - 1 + 1 ≡ get_or last t 0 = omega arith in
              rw (one.old (get_or last t 0 - 1) (omega (arith, ring.few)) (apart _ (ring.some h))) (more _ (ring.first h));
          each = λ i less same. rw (one.old i (omega (arith, ring.few)) (apart i same)) (more _ (ring.each i less same));
        }

    pub linked_more : AreRinged tags (set last s (n + 1)) links (n + 1) T
    linked_more = λ t below.
        ⊎_elim
        (λ (_, e). rw (e, get_or-set_same last s (n + 1) 0 (omega arith)) own_ring)
        (λ (_, other). rw (get_or-set_other last s t (n + 1) 0 other) (other_ring t other (all t below)))
        (eqb_tells t s)

-- the next candidate is linked, by its own tag
pub tagged_more : {tags : ℕ} {tag_of : List ℕ → ℕ} {last next lasts links : List ℕ} (cs : List Candidate) (n more : ℕ) (own : Candidate)
    → n < length cs → more ≡ n + 1 → own ≡ get_or cs n own
    → ((T : ℕ → ℕ) → T n ≡ tag_of own.1 → AreRinged tags last next n T → AreRinged tags lasts links more T)
    → AreTagged tags tag_of last next n cs → AreTagged tags tag_of lasts links more cs
tagged_more {tag_of} cs n more own below is at links_one tagged =
    let none : Candidate = (0, []) in
    let less : n < more = omega arith in
    record {
      few = omega (arith, below);
      linked = record {
        whatever = λ all front.
            let here : get_or all n none ≡ own = sym (get_or-take more all n none less)
            ∙ (ap (λ (ds : List Candidate). get_or ds n none) front
            ∙ (get_or-take more cs n none less ∙ (get_or_default cs n none own below ∙ sym at))) in
            links_one (tag_at tag_of all) (ap (λ (x : Candidate). tag_of x.1) here)
            (tagged.linked.whatever all
            (sym (take-take n more all (omega arith)) ∙ (ap (take n) front ∙ take-take n more cs (omega arith))));
      };
    }

-- ---- a search along a ring

-- Where a search is: none before the place is usable, and the candidate there has the tag.
pub record IsAt (tag_of : List ℕ → ℕ) (message : List ℕ) (labels : List (List ℕ)) (cs : List Candidate) (n t : ℕ) (next : Option ℕ)
    : Type 0 where
  pub some : IfSome next (λ i. (i < n) × (tag_at tag_of cs i ≡ t))
  pub passed : NoneBefore message labels cs (place n next)

place_within : (n : ℕ) (P : ℕ → Type 0) (found : Option ℕ) → IfSome found (λ i. (i < n) × P i) → place n found ≤ n
place_within n P None some = omega arith
place_within n P (Some i) some = omega (arith, some.0)

-- what does not have the tag cannot be usable
pub goes_on : (tag_of : List ℕ → ℕ) {message : List ℕ} {labels : List (List ℕ)} {cs : List Candidate} {n t from : ℕ} {next : Option ℕ}
    → t ≡ tag_of (labels_wire labels) → n ≤ length cs
    → FindsNext (tag_at tag_of cs) n t from next → NoneBefore message labels cs from → IsAt tag_of message labels cs n t next
goes_on tag_of {cs} {n} {t} {from} {next} is few found passed = record {
  some = found.some;
  passed = λ k d low less.
      let within = place_within n (λ i. tag_at tag_of cs i ≡ t) next found.some in
      ⊎_elim
      (λ (_, past) has.
      let same = ap (λ (c : Candidate). tag_of c.1) (get_or_default cs k (0, []) d (omega arith)) in
      absurd (found.none k past less (same ∙ (ap tag_of has ∙ sym is))))
      (λ (_, early). passed k d low early)
      (leb_tells from k);
}
