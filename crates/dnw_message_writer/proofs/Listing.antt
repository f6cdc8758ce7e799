-- Records of a list that are added in turn.
use Rattle.std.proofs.Common.{◌≡◌, ◌⊎◌, ℕ, ◌≤◌, List, [], ◌∷◌, ◌++◌, drop, length, take, refl, sym, ap, ◌∙◌, subst, inl, inr, arith}
use Rattle.dnw_message_writer.specs.Inside.Turns.{KeptCount}
use Rattle.dnw_message_writer.specs.Items.{ItemForm}
use Rattle.dnw_message_writer.specs.Listed.{HasListed, ListsThen, data_form, first_listed, listed_size}
use Rattle.dnw_message_writer.specs.Sets.{AddsSet}
use Rattle.dnw_message_writer.specs.States.{AddsItem}
use Rattle.dnw_message_writer.specs.declared.section.Section.{Section}
use Rattle.dnw_message_writer.specs.declared.state.WriterState.{WriterState}
use Rattle.dnw_message_writer.proofs.Laying.{take_less}
use Rattle.dnw_message_writer.proofs.Turning.{kept_on}

-- one more is added
pub adds_push : {D : Type 0} (s : Section) (form : D → ItemForm) (ds : List D) (d : D) (w : WriterState) (m : List ℕ) (v : WriterState) (n : List ℕ)
    (u : WriterState) (o : List ℕ) → AddsSet s form ds w m v n → AddsItem s (form d) v n u o → AddsSet s form (ds ++ d ∷ []) w m u o
adds_push s form [] d w m v n u o (v_is, n_is) added = (u, o, rw (v_is, n_is) at added, (refl, refl))
adds_push s form (x ∷ ds) d w m v n u o (v1, m1, first, more) added = (v1, m1, first, adds_push s form ds d v1 m1 v n u o more added)

lists_push : (list : List ℕ) (ds : List (List ℕ)) (left : List ℕ) → ListsThen list ds left → HasListed left
    → ListsThen list (ds ++ first_listed left ∷ []) (drop (listed_size left) left)
lists_push list [] left is has = rw is (rw is at has, refl, refl)
lists_push list (d ∷ ds) left (here, first, more) has = (here, first, lists_push (drop (listed_size list) list) ds left more has)

-- Some records of a list are added, and this is left of it.
pub record Listing (s : Section) (owner : List (List ℕ)) (record_type class ttl : ℕ) (first : WriterState) (old list : List ℕ) (w : WriterState)
    (m left : List ℕ) : Type 0 where
  pub done : List (List ℕ)
  pub lists : ListsThen list done left
  pub added : AddsSet s (data_form owner record_type class ttl) done first old w m
  pub further : first.end ≤ w.end
  pub kept : KeptCount s (take first.end old) (take first.end m)
  pub size : length m ≡ length old
  pub whole : (12 ≤ first.end) ⊎ (w.end ≡ first.end)

module _ (s : Section) (owner : List (List ℕ)) (record_type class ttl : ℕ) (first : WriterState) (old list : List ℕ) where
  pub listing_none : Listing s owner record_type class ttl first old list first old list
  listing_none = record {
    done = [];
    lists = refl;
    added = (refl, refl);
    further = omega arith;
    kept = inl refl;
    size = refl;
    whole = inr refl;
  }

  module _ {w : WriterState} {m left : List ℕ} (g : Listing s owner record_type class ttl first old list w m left) where
    pub listing_on : (v : WriterState) (n rest : List ℕ) → HasListed left → rest ≡ drop (listed_size left) left → length n ≡ length m
        → AddsItem s (data_form owner record_type class ttl (first_listed left)) w m v n → Listing s owner record_type class ttl first old list v n rest
    listing_on v n rest has rest_is size added =
        let further = g.further in
        let header = added.3.message.whole in
        let whole : 12 ≤ first.end = elim g.whole [ inl above ↦ above | inr same ↦ omega (arith, same, header) ] in
        record {
          done = g.done ++ first_listed left ∷ [];
          lists = rw rest_is (lists_push list g.done left g.lists has);
          added = adds_push s (data_form owner record_type class ttl) g.done (first_listed left) first old w m v n g.added added;
          further = omega (arith, further, ap (λ (x : WriterState). x.end) added.6);
          kept = kept_on s old first.end (data_form owner record_type class ttl (first_listed left)) w v m n whole further g.size g.kept added;
          size = size ∙ g.size;
          whole = inl whole;
        }

    pub listing_kept : (n : List ℕ) → take w.end n ≡ take w.end m → KeptCount s (take first.end old) (take first.end n)
    listing_kept n same =
        let further = g.further in
        let here : take first.end n ≡ take first.end m =
        sym (take_less first.end w.end n further) ∙ (ap (take first.end) same ∙ take_less first.end w.end m further) in
        subst (λ x. KeptCount s (take first.end old) x) (sym here) g.kept
