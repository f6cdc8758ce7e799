-- What a walk knows before and after each element.
use Rattle.std.proofs.Common.{◌≡◌, ◌≢◌, ℕ, suc, ◌+◌, ◌-◌, ◌≤◌, Option, Some, None, List, [], ◌∷◌, ◌++◌, inl, inr, length, slice_get, slice_range, unwrap_or, refl, sym, ap, ◌∙◌, append_assoc, zero-add, add-zero, add-one, arith}
use Rattle.std.proofs.lemmas.Bool.{cases_eq}
use Rattle.std.proofs.lemmas.List.{length_push, append-nil}
use Rattle.std.proofs.lemmas.Option.{slice_get_within}
use Rattle.dnw_name_read.specs.declared.walk.Walked.{Walked}
use Rattle.dnw_base.specs.Names.{encoded_size}
use Rattle.dnw_base.proofs.Wires.{encoded_size_push, no_labels_size}
use Rattle.dnw_name_read.specs.Reading.{IsWithin, NameAt, zero_octet, label}
use Rattle.dnw_name_read.specs.Inside.Walking.{IsLabelAt, IsPointerAt, IsFirstPiece, once_followed, GoesOn, Leads, PassedOctets, WalksOn}
use Rattle.dnw_name_read.specs.Inside.Found.{labels_at, IsFound}
use Rattle.dnw_name_read.proofs.Counts.{length_label}
use Rattle.dnw_name_read.proofs.Stand.{Reads_wider}
use Rattle.dnw_name_read.proofs.Unique.{Reads_jump, Stops_jump}
use Rattle.dnw_name_read.proofs.Found.{labels_at_NameAt, StandsAt_found}
use Rattle.dnw_name_read.proofs.Pieces.{passed_none, passed_label, passed_jump, in_two, sizes}

-- a walk begins at the start, in a segment with any limit
abbrev Leads_start : (b : List ℕ) (p : ℕ) (limit : Option ℕ) (passed : List (List ℕ)) → passed ≡ [] → Leads b p p p limit passed
Leads_start b p limit passed none =
    record { more = 0; own = λ e. e; earlier = omega arith; goes_on = record { reads = λ ls e k r. rw (none, zero-add) (Reads_wider p None (omega arith) tt r) } }

pub WalksOn_start : (b : List ℕ) (p end : ℕ) → WalksOn b p p p p (length b) end 1 0 0
WalksOn_start b p end = record {
  passed = [];
  counts = omega arith;
  written = passed_none b p (length b) [] refl (omega arith);
  whole = λ _. refl;
  leads = Leads_start b p None [] refl;
  here = λ none. refl;
  next = λ one. absurd (omega (arith, one));
  goes_on = record { reads = λ ls e k r. rw zero-add r };
  stops = λ error k j f. rw (zero-add k, zero-add j) f;
}

module _ {b : List ℕ} {start p s pointers : ℕ} {limit : Option ℕ} {passed : List (List ℕ)} {own : ℕ → ℕ} (w : IsWithin p limit)
    (on : GoesOn b start p s limit passed own pointers) where
  -- a name ends, a label is passed, a pointer is followed
  goes-end : slice_get b p ≡ Some 0 → encoded_size passed ≤ 255 → NameAt b start passed (own (p + 1)) pointers
  goes-end g fits = record { reads = rw (append-nil, add-zero) at (on.reads [] (p + 1) 0 (zero_octet w g)); fits = fits }

  goes-label : (c : ℕ) → IsLabelAt b p c → GoesOn b start (p + 1 + c) s limit (passed ++ slice_range b (p + 1) (p + 1 + c) ∷ []) own pointers
  goes-label c l = record {
    reads = λ ls e k r. rw append_assoc (on.reads (slice_range b (p + 1) (p + 1 + c) ∷ ls) e k (label c w l.octet l.some l.few l.there r));
  }

  goes-pointer : (t : ℕ) → IsPointerAt b p s t → GoesOn b start t t (Some s) passed (λ e. own (p + 2)) (suc pointers)
  goes-pointer t at = record {
    reads = λ ls e k r. let count : suc pointers + k ≡ pointers + suc k = omega arith in rw count (on.reads ls (p + 2) (suc k) (Reads_jump w at r));
  }

module _ {b : List ℕ} {start first p s limit end size pointers labels : ℕ} (h : WalksOn b start first p s limit end size pointers labels)
    (w : IsWithin p (once_followed pointers limit)) where
  -- the name ends here
  pub WalksOn-end : slice_get b p ≡ Some 0 → (walked : Walked) → walked.first ≡ first → walked.size ≡ size
      → walked.end ≡ unwrap_or (once_followed pointers end) (p + 1) → walked.tail ≡ s → IsFirstPiece first s limit size (p + 1 - s) walked.head
      → IsFound b start walked labels pointers
  WalksOn-end g walked first_is size_is end_is tail_is head_is =
      let fits : encoded_size h.passed ≤ 255 = omega (arith, h.counts) in
      let size_of : walked.size ≡ encoded_size h.passed = size_is ∙ sym h.counts.size_is in
      let name : NameAt b start h.passed walked.end pointers = rw end_is (goes-end w h.goes_on g fits) in
      let there : NameAt b walked.first h.passed (h.leads.own (p + 1)) h.leads.more = rw first_is (goes-end w h.leads.goes_on g fits) in
      let labels : labels_at b first ≡ h.passed = rw first_is at (labels_at_NameAt _ _ _ _ _ there) in
      record {
        stands = StandsAt_found h.passed name size_of (sym h.counts.count_is);
        lies = record {
          end = h.leads.own (p + 1);
          pointers = h.leads.more;
          stands = StandsAt_found h.passed there size_of (sym h.counts.count_is);
          pieces = λ some.
              let two = in_two h.written g h.counts.order (sym h.counts.size_is) labels walked.head head_is some in
              rw (first_is, size_is, tail_is) two;
          known = λ few. elim head_is [
            | inl (same, all) ↦ omega (arith, all, h.counts)
            | inr (inl (other, (there, part))) ↦ omega (arith, part, sizes h.written g h.counts.order (sym h.counts.size_is) labels, h.written.some other)
            | inr (inr (other, (away, none))) ↦ elim (cases_eq h.leads.more 0) [
              | inl zero ↦ absurd (other (h.here zero))
              | inr more ↦ absurd (away (h.next (omega (arith, few, more))))
            ]
          ];
          whole = λ zero. elim head_is [
            | inl (same, all) ↦ all ∙ sym size_is
            | inr (inl (other, rest)) ↦ absurd (other (h.here zero))
            | inr (inr (other, rest)) ↦ absurd (other (h.here zero))
          ];
        };
        same = labels_at_NameAt _ _ _ _ _ there ∙ sym (labels_at_NameAt _ _ _ _ _ name);
      }

  -- a label is passed
  pub WalksOn-label : (c : ℕ) → IsLabelAt b p c → size + 1 + c ≤ 255
      → WalksOn b start first (p + 1 + c) s limit end (size + 1 + c) pointers (labels + 1)
  WalksOn-label c l short =
      let new : List ℕ = slice_range b (p + 1) (p + 1 + c) in
      record {
        passed = h.passed ++ new ∷ [];
        counts = omega (arith, h.counts, l.some, encoded_size_push h.passed new, length_push h.passed new, length_label b p c l.there);
        written = passed_label h.written c l h.counts.order;
        whole = h.whole;
        leads = record { more = h.leads.more; own = h.leads.own; earlier = h.leads.earlier; goes_on = goes-label w h.leads.goes_on c l };
        here = h.here;
        next = h.next;
        goes_on = goes-label w h.goes_on c l;
        stops = λ error k j f.
            let count : labels + 1 + j ≡ labels + suc j = omega arith in
            rw count (h.stops error k (suc j) (label c w l.octet l.some l.few l.there short f));
      }

  -- a pointer is followed, wherever the first label is then
  WalksOn-jump : (t e to : ℕ) → IsPointerAt b p s t → e ≡ unwrap_or (once_followed pointers end) (p + 2)
      → (leads : Leads b to t t (Some s) h.passed) → (leads.more ≡ 0 → t ≡ to) → (leads.more ≡ 1 → s ≡ to) → PassedOctets b to t t s h.passed
      → WalksOn b start to t t s e size (pointers + 1) labels
  WalksOn-jump t e to at end_is leads here next written = rw add-one (record {
    passed = h.passed;
    written = written;
    counts = omega (arith, h.counts, at.prior, slice_get_within b p at.high at.first);
    whole = λ zero. absurd (omega arith);
    leads = leads;
    here = here;
    next = next;
    goes_on = rw (← end_is) at (goes-pointer w h.goes_on t at);
    stops = λ error k j f.
        let count : suc pointers + k ≡ pointers + suc k = omega arith in
        rw count (h.stops error (suc k) j (Stops_jump w at f));
  })

  -- it is at the first label now, or after one
  pub WalksOn-first : (t e : ℕ) → IsPointerAt b p s t → e ≡ unwrap_or (once_followed pointers end) (p + 2)
      → size ≡ 1 → WalksOn b start t t t s e size (pointers + 1) labels
  WalksOn-first t e at end_is none =
      let no_labels = (no_labels_size h.passed).0 (h.counts.size_is ∙ none) in
      WalksOn-jump t e t at end_is (Leads_start _ _ _ _ no_labels) (λ none. refl) (λ one. absurd (omega (arith, one))) (passed_none _ _ _ _ no_labels (omega (arith, h.counts.order, slice_get_within b p at.high at.first)))

  pub WalksOn-pointer : (t e : ℕ) → IsPointerAt b p s t → e ≡ unwrap_or (once_followed pointers end) (p + 2)
      → size ≢ 1 → WalksOn b start first t t s e size (pointers + 1) labels
  WalksOn-pointer t e at end_is some =
      let earlier : t + suc h.leads.more ≤ first = omega (arith, at.prior, h.leads.earlier) in
      WalksOn-jump t e first at end_is (record { more = suc h.leads.more; own = λ e. h.leads.own (p + 2); earlier = earlier; goes_on = goes-pointer w h.leads.goes_on t at })
      (λ none. absurd (omega (arith, none))) (λ one. h.here (omega (arith, one)))
      (passed_jump h.written t (λ none. some (sym h.counts.size_is ∙ ap encoded_size none)) at.prior (omega (arith, h.leads.earlier)) h.counts.order (omega (arith, slice_get_within b p at.high at.first)))

-- how a walk begins and goes on
pub ruleset walking = (WalksOn_start, WalksOn-label, WalksOn-first, WalksOn-pointer)
