-- Writing a name keeps the frame of `emit`.
use Rattle.std.proofs.Common.{◌≡◌, ℕ, ◌+◌, ◌-◌, ◌<◌, ◌≤◌, if◌then◌else◌, List, [], ◌∷◌, ◌++◌, length, take, Option, Some, None, Ok, Err, refl, sym, ap, ◌∙◌, subst, arith, rules, tests, Bool, true, false, cond, nat_lt}
use Rattle.std.specs.List.{All}
use Rattle.std.proofs.lemmas.List.{length-append, take-append-le, append-nil}
use Rattle.std.proofs.lemmas.List.Elements.{All-cons, All-nil, All-tail, All-take, filter-append}
use Rattle.dnw_base.specs.declared.error.ProtoError.TheVariants.{MaxBufferSizeExceeded, Memory}
use Rattle.dnw_base.specs.Names.{NameValue, labels_wire, wire}
use Rattle.dnw_write.specs.Encoder.{Encoder}
use Rattle.dnw_write_suffixes.specs.Candidates.{Candidate, candidates_before, suffixes}
use Rattle.dnw_write.specs.Emitting.{Outcome, Frame}
use Rattle.dnw_write.specs.EmittedName.{EmitsAs, EmitsName, Share, counted, emitted, form, in_mode, kept, newly_kept}
use Rattle.dnw_write.specs.EmittingLaws.{frame_moved, frame_written, frame_same, take_all_lem, candidates_before_twice}

-- ---- what is kept is between the start and the end of the labels

abbrev IsWithin : ℕ → ℕ → List Candidate → Type 0
IsWithin o e cs = All (λ c. (o ≤ c.0) × (c.0 < e)) cs

within_suffixes : (o p e : ℕ) (ls : List (List ℕ)) → o ≤ p → p + length (labels_wire ls) ≤ e → IsWithin o e (suffixes p ls)
within_suffixes o p e [] le end = All-nil (λ c. (o ≤ c.0) × (c.0 < e))
within_suffixes o p e (l ∷ ls) le end =
    let size = length-append l (labels_wire ls) in
    All-cons (λ c. (o ≤ c.0) × (c.0 < e)) (p, labels_wire (l ∷ ls)) (suffixes (p + 1 + length l) ls) (le, omega (arith, end, size))
    (within_suffixes o (p + 1 + length l) e ls (omega (arith, le)) (omega (arith, end, size)))

pub within_kept : (v : Encoder) (ls : List (List ℕ)) (n : ℕ) → All (λ c. (v.offset ≤ c.0) × (c.0 < v.offset + length (labels_wire ls))) (kept v ls n)
within_kept v ls n =
    let o = v.offset in
    let e = v.offset + length (labels_wire ls) in
    let P : Candidate → Type 0 = λ c. (o ≤ c.0) × (c.0 < e) in
    let some = take (v.candidate_limit - length v.candidates) (take n (suffixes o ls)) in
    let all : IsWithin o e some = All-take P _ _ (All-take P n (suffixes o ls) (within_suffixes o o e ls (omega arith) (omega arith))) in
    let M : Bool → Type 0 = λ b. IsWithin o e (if b then some else []) in
    let cases : (b : Bool) → M b = λ b. elim b as M [
      | true ↦ all
      | false ↦ All-nil P
    ] in
    cases (nat_lt (v.offset + length (labels_wire ls)) 16383)

not_less : (o p : ℕ) → o ≤ p → nat_lt p o ≡ false
not_less o p le = search (rules, tests)

-- none of them is among the candidates before it
before_none : (o e : ℕ) (cs : List Candidate) → IsWithin o e cs → candidates_before o cs ≡ []
before_none o e [] all = refl
before_none o e (c ∷ cs) all =
    let (le, less) = all 0 c (omega arith) in
    ap (λ (b : Bool). cond b (c ∷ candidates_before o cs) (candidates_before o cs)) (not_less o c.0 le)
    ∙ before_none o e cs (All-tail (λ c. (o ≤ c.0) × (c.0 < e)) c cs all)

same_before : (v : Encoder) (ls : List (List ℕ)) (n : ℕ)
    → candidates_before v.offset (v.candidates ++ kept v ls n) ≡ candidates_before v.offset v.candidates
same_before v ls n =
    filter-append (λ c. nat_lt c.0 v.offset) v.candidates (kept v ls n)
    ∙ (ap (λ (zs : List Candidate). candidates_before v.offset v.candidates ++ zs) (before_none v.offset (v.offset + length (labels_wire ls)) (kept v ls n) (within_kept v ls n))
    ∙ append-nil (candidates_before v.offset v.candidates))

-- ---- the frame

frame_emitted : (v : Encoder) (ls : List (List ℕ)) (choice : Option Share) → v.offset ≡ length v.bytes → Frame v (Ok tt) (emitted v ls choice)
frame_emitted v ls None e =
    let plain = frame_written v (wire ls) e in
    frame_moved v (Ok tt) _ _ (v.candidates ++ newly_kept v ls None) (counted v) plain.bytes (same_before v ls (length ls)) plain.ends
frame_emitted v ls (Some share) e =
    let d = form ls (Some share) in
    let front = labels_wire share.front in
    let cs = v.candidates ++ newly_kept v ls (Some share) in
    let all = take_all_lem v.offset v.bytes e in
    let le : v.offset ≤ length (take v.offset v.bytes) = omega (arith, e, ap length all) in
    frame_moved v (Ok tt) _ _ (candidates_before (v.offset + length front) cs) (counted v)
    (take-append-le v.offset (take v.offset v.bytes) d le ∙ (ap (take v.offset) all ∙ all))
    (candidates_before_twice v.offset (v.offset + length front) cs (omega arith) ∙ same_before v ls (length share.front))
    (omega (arith, e, ap length all, length-append (take v.offset v.bytes) d))

frame_as : (v : Encoder) (ls : List (List ℕ)) (choice : Option Share) (outcome : Outcome) (w : Encoder) → v.offset ≡ length v.bytes
    → EmitsAs v ls choice outcome w → Frame v outcome w
frame_as v ls choice (Ok tt) w e h = let P : Encoder → Type 0 = λ x. Frame v (Ok tt) x in subst P (sym h.1) (frame_emitted v ls choice e)
frame_as v ls choice (Err Memory) w e h = let P : Encoder → Type 0 = λ x. Frame v (Err Memory) x in subst P (sym h.2) (frame_same v (Err Memory) e)
frame_as v ls choice (Err (MaxBufferSizeExceeded size)) w e h =
    let P : Encoder → Type 0 = λ x. Frame v (Err (MaxBufferSizeExceeded size)) x in
    subst P (sym h.2) (frame_same v (Err (MaxBufferSizeExceeded size)) e)
frame_as v ls choice (Err error) w e h = absurd h

pub frame_name : (name : NameValue) (v : Encoder) (outcome : Outcome) (w : Encoder) → v.offset ≡ length v.bytes
    → EmitsName name v outcome w → Frame v outcome w
frame_name name v outcome w e h = frame_as v (in_mode v.encoding name.labels) h.choice outcome w e h.written_as
