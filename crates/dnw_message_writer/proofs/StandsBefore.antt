-- Labels that stand in octets before the gap.
use Rattle.std.proofs.Common.{◌≡◌, ℕ, ◌+◌, ◌<◌, ◌≤◌, List, ◌∷◌, length, take, sym, ap, ◌∙◌, subst, inl, inr, refl, arith}
use Rattle.std.proofs.lemmas.List.{length-append, length-take-le}
use Rattle.std.specs.List.{AllByRecursion}
use Rattle.dnw_base.specs.Labels.{IsLabel}
use Rattle.dnw_base.specs.Names.{wire}
use Rattle.dnw_base.proofs.Wires.{wire_cons}
use Rattle.dnw_message_writer.specs.declared.standing.Spot.{Spot}
use Rattle.dnw_message_writer.specs.Standing.{FollowsPointer, IsThere, StandsFrom, StandsSettled, after_octets}
use Rattle.dnw_message_writer.specs.Inside.Standing.{FollowsBefore, AreNextBefore}
use Rattle.dnw_message_writer.proofs.Stands.{stands_on}
use Rattle.dnw_message_writer.proofs.Wholes.{whole_stands}

-- a label is no longer than the wire form that it begins
length_label : (label : List ℕ) (later : List (List ℕ)) → length label + 1 ≤ length (wire (label ∷ later))
length_label label later = omega (arith, ap length (wire_cons label later), length-append label (wire later))

-- the same spot, in a segment that ends elsewhere
abbrev pub with_limit : ℕ → Spot → Spot
with_limit limit s = record { position = s.position; segment = s.segment; limit = limit }

-- A reading of some labels has come to a spot, whose limit is before the gap and the end of its segment, and these are left.
pub record Reaches (b : List ℕ) (gap start : ℕ) (all : List (List ℕ)) (s : Spot) (left : List (List ℕ)) : Type 0 where
  pub end : ℕ
  pub here : s.position ≤ s.limit
  pub more : s.limit ≤ end
  pub before : s.limit ≤ gap
  pub within : gap ≤ length b
  pub after_header : 12 ≤ s.position
  pub order : s.segment ≤ s.position
  pub goes_on : StandsFrom b gap (with_limit end s) left → StandsSettled b gap start all

-- a spot after the pointer that is next, or the same
record Leads (b : List ℕ) (gap : ℕ) (s t : Spot) (end : ℕ) : Type 0 where
  other : ℕ
  more : t.limit ≤ other
  before : t.limit ≤ gap
  next : t.position < t.limit
  after_header : 12 ≤ t.position
  order : t.segment ≤ t.position
  follows : FollowsPointer b gap (with_limit end s) (with_limit other t)

module _ (b : List ℕ) (gap start : ℕ) (all : List (List ℕ)) where
  leads_by : (s t : Spot) (left : List (List ℕ)) (g : Reaches b gap start all s left) → FollowsBefore b s t → Leads b gap s t g.end
  leads_by s t left g f =
      let inside = f.inside in
      let before = g.before in
      let more = g.more in
      let within = g.within in
      let header = g.after_header in
      let order = g.order in
      elim f.way as (λ w. Leads b gap s t g.end) [
        | inl (small, same) ↦
            subst (λ x. Leads b gap s x g.end) (sym same) (record {
              other = g.end;
              more = more;
              before = before;
              next = omega (arith, inside);
              after_header = header;
              order = order;
              follows = inr (λ leads. (let marked = leads.marked in absurd (omega (arith, marked, small))), refl);
            })
        | inr (points, there) ↦
            let prior = points.prior in
            subst (λ x. Leads b gap s x g.end) (sym there) (record {
              other = s.segment;
              more = omega arith;
              before = omega (arith, before, inside, order);
              next = prior;
              after_header = points.after_header;
              order = omega arith;
              follows = inl (
                record {
                  before = omega (arith, inside, more);
                  settled = record { inside = omega (arith, inside, before, within); after_header = header; apart = inl (omega (arith, inside, before)) };
                  marked = points.marked;
                  prior = prior;
                },
                refl,
              );
            })
      ]

  module _ (s t : Spot) (left : List (List ℕ)) (g : Reaches b gap start all s left) (f : FollowsBefore b s t) where
    pub next_before : t.position < t.limit
    next_before = (leads_by s t left g f).next

    pub limit_inside : t.limit ≤ length b
    limit_inside =
        let before = (leads_by s t left g f).before in
        let within = g.within in
        omega (arith, before, within)

    there_in : (octets : List ℕ) → AreNextBefore b t octets → IsThere b gap (with_limit (leads_by s t left g f).other t) octets
    there_in octets is =
        let l = leads_by s t left g f in
        let fits = is.fits in
        let before = l.before in
        let within = g.within in
        let next = l.next in
        let more = l.more in
        record {
          before = omega (arith, next, more);
          settled = record { inside = omega (arith, fits, before, within); after_header = l.after_header; apart = inl (omega (arith, fits, before)) };
          same = is.same;
        }

    -- a wire form that is there whole
    pub whole_before : (form : List ℕ) → form ≡ wire left → AllByRecursion IsLabel left → AreNextBefore b t form → StandsSettled b gap start all
    whole_before form form_is are is =
        let l = leads_by s t left g f in
        let here : AreNextBefore b t (wire left) = subst (λ o. AreNextBefore b t o) form_is is in
        let fits = here.fits in
        let more = l.more in
        g.goes_on (whole_stands b gap (with_limit g.end s) (with_limit l.other t) left l.follows are (there_in (wire left) here) (omega (arith, fits, more)))

    -- a label is taken
    pub label_before : (label form : List ℕ) (later : List (List ℕ)) → left ≡ label ∷ later → form ≡ wire left
        → AreNextBefore b t (take (length label + 1) form) → Reaches b gap start all (after_octets t (length label + 1)) later
    label_before label form later split form_is is =
        let l = leads_by s t left g f in
        let header = l.after_header in
        let order = l.order in
        let on = stands_on b gap (with_limit g.end s) (with_limit l.other t) left later label form l.follows split form_is (there_in (take (length label + 1) form) is) in
        let taken = length-take-le (length label + 1) form (omega (arith, ap length (form_is ∙ ap wire split), length_label label later)) in
        let fits = is.fits in
        record {
          end = l.other;
          here = omega (arith, fits, taken);
          more = l.more;
          before = l.before;
          within = g.within;
          after_header = omega (arith, header);
          order = omega (arith, order);
          goes_on = λ more. g.goes_on (on.1 more);
        }
