-- Labels that are compared where a message may have them, element by element.
use Rattle.std.proofs.Common.{◌≡◌, ◌↔◌, ℕ, suc, ◌+◌, ◌<◌, ◌≤◌, Some, None, List, [], ◌∷◌, length, slice_get, slice_range, ap, arith}
use Rattle.std.proofs.lemmas.List.{append-nil}
use Rattle.dnw_base.specs.declared.error.DecodeError.{DecodeError}
use Rattle.dnw_base.specs.Limits.{max_name}
use Rattle.dnw_base.specs.Names.{encoded_size}
use Rattle.dnw_base.proofs.Wires.{encoded_size_cons}
use Rattle.dnw_name_read.specs.Reading.{NameAt, Reads, Stops, target, zero_octet, label, pointer}
use Rattle.dnw_name_read.specs.Inside.Walking.{IsLabelAt, IsPointerAt}
use Rattle.dnw_name_read.proofs.Stand.{Reads_limited, Reads_wider}
use Rattle.dnw_name_read.proofs.Unique.{Reads_by, Reads_not_Stops, step_zero, step_label, step_pointer}

-- a name with these labels is at p
abbrev pub HasLabels : List ℕ → ℕ → List (List ℕ) → Type 0
HasLabels b p ls = (e : ℕ) × (k : ℕ) × NameAt b p ls e k

-- these labels are read from p on
abbrev pub ReadsOn : List ℕ → ℕ → ℕ → ℕ → List (List ℕ) → Type 0
ReadsOn b p s limit ls = (e : ℕ) × (k : ℕ) × Reads b p s (Some limit) ls e k

-- What a comparison knows at p: all labels are at the start if and only if those that are left are read from p on.
pub record GoesAlong (b : List ℕ) (start p s limit : ℕ) (all ls : List (List ℕ)) : Type 0 where
  pub inside : limit ≤ length b
  pub order : s ≤ p
  pub fits : encoded_size ls ≤ max_name
  pub agrees : HasLabels b start all ↔ ReadsOn b p s limit ls

-- at the start the limit is the end of the message
pub along_start : (b : List ℕ) (start : ℕ) (all : List (List ℕ)) → encoded_size all ≤ max_name
    → GoesAlong b start start start (length b) all all
along_start b start all fits = record {
  inside = omega arith;
  order = omega arith;
  fits = fits;
  agrees = (
    λ (e, k, n). (e, k, rw append-nil at (Reads_limited [] n.reads)),
    λ (e, k, r). (e, k, record { reads = Reads_wider start None (omega arith) tt r; fits = fits }),
  );
}

module _ {b : List ℕ} {start p s limit : ℕ} {all ls : List (List ℕ)} (h : GoesAlong b start p s limit all ls) where
  -- no element is here
  pub along-stops : {error : DecodeError} {followed found : ℕ} → Stops b p s (Some limit) 1 error followed found
      → HasLabels b start all → ⊥
  along-stops stops has =
      let (e, k, r) = h.agrees.0 has in
      Reads_not_Stops r (let fits = h.fits in omega arith) stops

  -- the name ends here
  pub along-end : p < limit → slice_get b p ≡ Some 0 → HasLabels b start all ↔ (ls ≡ [])
  along-end before g = (
    λ has. let (e, k, r) = h.agrees.0 has in (Reads_by (step_zero b p s (Some limit) before g) r).0,
    λ none. h.agrees.1 (p + 1, 0, rw none (zero_octet before g)),
  )

  -- the label that is left is here
  pub along-label : p < limit → (c : ℕ) → IsLabelAt b p c → (rest : List (List ℕ)) → ls ≡ slice_range b (p + 1) (p + 1 + c) ∷ rest
      → GoesAlong b start (p + 1 + c) s limit all rest
  along-label before c l rest is = record {
    inside = h.inside;
    order = (let order = h.order in omega arith);
    fits = (let fits = h.fits in omega (arith, encoded_size_cons (slice_range b (p + 1) (p + 1 + c)) rest, ap encoded_size is));
    agrees = (
      λ has.
          let (e, k, r) = h.agrees.0 has in
          let (others, whole, more) = Reads_by (step_label b p s (Some limit) c before l.octet l.some l.few l.there) r in
          let same : others ≡ rest = cc in
          (e, k, rw same at more),
      λ (e, k, r). h.agrees.1 (e, k, rw is (label c before l.octet l.some l.few l.there r)),
    );
  }

  -- a pointer is followed
  pub along-pointer : p < limit → (t : ℕ) → IsPointerAt b p s t → GoesAlong b start t t s all ls
  along-pointer before t at =
      let prior : target at.high at.low < s = rw at.leads at at.prior in
      record {
        inside = (let inside = h.inside in let order = h.order in omega arith);
        order = omega arith;
        fits = h.fits;
        agrees = (
          λ has.
              let (e, k, r) = h.agrees.0 has in
              let jumps = step_pointer b p s (Some limit) at.high at.low before at.first at.marked at.second prior in
              let (end, followed, e_is, k_is, more) = Reads_by jumps r in
              (end, followed, rw at.leads more),
          λ (e, k, r). h.agrees.1
              (p + 2, suc k, pointer at.high at.low before at.first at.marked at.second prior (rw at.leads at r)),
        );
      }
