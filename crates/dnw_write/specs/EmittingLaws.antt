-- A write keeps the frame of `emit`.
use Rattle.std.proofs.Common.{◌≡◌, ℕ, ◌+◌, ◌≤◌, List, [], ◌∷◌, ◌++◌, length, take, drop, Ok, Err, OnOk, refl, sym, ap, ◌∙◌, subst, arith, rules, tests, Bool, true, false, cond, nat_lt}
use Rattle.std.proofs.lemmas.List.{length-append, length-drop, length-take, take-append-le, take-take}
use Rattle.std.proofs.Math.Seq.{take-length}
use Rattle.dnw_base.specs.declared.error.ProtoError.{ProtoError}
use Rattle.dnw_base.specs.declared.error.ProtoError.TheVariants.{CharacterDataTooLong, MaxBufferSizeExceeded, Memory}
use Rattle.dnw_write.specs.Encoder.{Encoder, Writes, WritesText, written}
use Rattle.dnw_write_suffixes.specs.Candidates.{Candidate, candidates_before}
use Rattle.dnw_write.specs.Emitting.{Outcome, Emits, Frame, InTurn}

pub take_all_lem : (o : ℕ) (b : List ℕ) → o ≡ length b → take o b ≡ b
take_all_lem o b e = rw e (take-length b)

front_written : (o : ℕ) (b d : List ℕ) → o ≡ length b → take o (take o b ++ (d ++ drop (o + length d) b)) ≡ b
front_written o b d e =
    let all = take_all_lem o b e in
    let le : o ≤ length (take o b) = omega (arith, e, ap length all) in
    take-append-le o (take o b) (d ++ drop (o + length d) b) le ∙ (ap (take o) all ∙ all)

length_written : (o : ℕ) (b d : List ℕ) → o ≡ length b → o + length d ≡ length (take o b ++ (d ++ drop (o + length d) b))
length_written o b d e =
    omega (arith, e, ap length (take_all_lem o b e), length-append (take o b) (d ++ drop (o + length d) b), length-append d (drop (o + length d) b), length-drop (o + length d) b)

on_ok : (outcome : Outcome) {P : Type 0} → P → OnOk outcome P
on_ok (Ok done) p = p
on_ok (Err error) p = tt

-- Where what is new stands after what stood before, the frame is kept.
pub frame_moved : (v : Encoder) (outcome : Outcome) (b : List ℕ) (o : ℕ) (cs : List Candidate) (names : ℕ) → take v.offset b ≡ v.bytes
    → candidates_before v.offset cs ≡ candidates_before v.offset v.candidates → o ≡ length b
    → Frame v outcome (record v { bytes = b; offset = o; candidates = cs; names = names })
frame_moved v outcome b o cs names front kept end =
    record {
      bytes = front;
      candidates = kept;
      encoding = refl;
      canonical = refl;
      max_size = refl;
      candidate_limit = refl;
      name_limit = refl;
      ends = on_ok outcome end;
    }

pub frame_written : (v : Encoder) (d : List ℕ) → v.offset ≡ length v.bytes → Frame v (Ok tt) (written v d)
frame_written v d e = frame_moved v (Ok tt) _ _ v.candidates v.names (front_written v.offset v.bytes d e) refl (length_written v.offset v.bytes d e)

pub frame_same : (v : Encoder) (outcome : Outcome) → v.offset ≡ length v.bytes → Frame v outcome v
frame_same v outcome e = frame_moved v outcome v.bytes v.offset v.candidates v.names (take_all_lem v.offset v.bytes e) refl e

pub frame : (v : Encoder) (d : List ℕ) (outcome : Outcome) (w : Encoder) → v.offset ≡ length v.bytes → Writes v d outcome w → Frame v outcome w
frame v d (Ok tt) w e h = let P : Encoder → Type 0 = λ x. Frame v (Ok tt) x in subst P (sym h.1) (frame_written v d e)
frame v d (Err Memory) w e h = let P : Encoder → Type 0 = λ x. Frame v (Err Memory) x in subst P (sym h.2) (frame_same v (Err Memory) e)
frame v d (Err (MaxBufferSizeExceeded size)) w e h =
    let P : Encoder → Type 0 = λ x. Frame v (Err (MaxBufferSizeExceeded size)) x in
    subst P (sym h.2) (frame_same v (Err (MaxBufferSizeExceeded size)) e)
frame v d (Err error) w e h = absurd h

-- a refused write changes nothing
pub fails_unchanged : (v : Encoder) (d : List ℕ) (error : ProtoError) (w : Encoder) → Writes v d (Err error) w → w ≡ v
fails_unchanged v d Memory w h = h.2
fails_unchanged v d (MaxBufferSizeExceeded size) w h = h.2
fails_unchanged v d error w h = absurd h

-- ---- one frame after another

no_less : (n p q : ℕ) → p ≤ q → nat_lt n q ≡ false → nat_lt n p ≡ false
no_less n p q le e = search (rules, tests)

-- what stands before the nearer of two places is among what stands before the farther
pub candidates_before_twice : (p q : ℕ) (cs : List Candidate) → p ≤ q → candidates_before p (candidates_before q cs) ≡ candidates_before p cs
candidates_before_twice p q [] le = refl
candidates_before_twice p q (c ∷ cs) le =
    let others = candidates_before q cs in
    let rest = candidates_before_twice p q cs le in
    let M : Bool → Type 0 = λ b. nat_lt c.0 q ≡ b → candidates_before p (cond b (c ∷ others) others) ≡ candidates_before p (c ∷ cs) in
    let cases : (b : Bool) → M b = λ b. elim b as M [
      | true ↦ λ e. ap (λ (zs : List Candidate). cond (nat_lt c.0 p) (c ∷ zs) zs) rest
      | false ↦ λ e. rest ∙ sym (ap (λ (b : Bool). cond b (c ∷ candidates_before p cs) (candidates_before p cs)) (no_less c.0 p q le e))
    ] in
    cases (nat_lt c.0 q) refl

pub frames_follow : (v m w : Encoder) (outcome : Outcome) → v.offset ≡ length v.bytes → Frame v (Ok tt) m → Frame m outcome w → Frame v outcome w
frames_follow v m w outcome e f g =
    let le : v.offset ≤ m.offset = omega (arith, e, f.ends, ap length f.bytes, length-take v.offset m.bytes) in
    record {
      bytes = sym (take-take v.offset m.offset w.bytes le) ∙ (ap (take v.offset) g.bytes ∙ f.bytes);
      candidates = sym (candidates_before_twice v.offset m.offset w.candidates le)
          ∙ (ap (candidates_before v.offset) g.candidates ∙ (candidates_before_twice v.offset m.offset m.candidates le ∙ f.candidates));
      encoding = g.encoding ∙ f.encoding;
      canonical = g.canonical ∙ f.canonical;
      max_size = g.max_size ∙ f.max_size;
      candidate_limit = g.candidate_limit ∙ f.candidate_limit;
      name_limit = g.name_limit ∙ f.name_limit;
      ends = g.ends;
    }

-- items in turn
pub frame_in_turn : {X : Type 0} (emits : Emits X)
    → ((x : X) (v : Encoder) (outcome : Outcome) (w : Encoder) → v.offset ≡ length v.bytes → emits x v outcome w → Frame v outcome w)
    → (v w : Encoder) (xs : List X) → v.offset ≡ length v.bytes → InTurn emits v xs w → Frame v (Ok tt) w
frame_in_turn emits keeps v w [] e h =
    let P : Encoder → Type 0 = λ x. Frame v (Ok tt) x in
    subst P (sym h) (frame_same v (Ok tt) e)
frame_in_turn emits keeps v w (x ∷ xs) e h =
    let first = keeps x v (Ok tt) h.0 e h.1 in
    frames_follow v h.0 w (Ok tt) e first (frame_in_turn emits keeps h.0 w xs first.ends h.2)

-- character data
pub frame_text : (v : Encoder) (d : List ℕ) (outcome : Outcome) (w : Encoder) → v.offset ≡ length v.bytes → WritesText v d outcome w → Frame v outcome w
frame_text v d (Ok tt) w e h = frame v (length d ∷ d) (Ok tt) w e h.1
frame_text v d (Err (CharacterDataTooLong max len)) w e h =
    let P : Encoder → Type 0 = λ x. Frame v (Err (CharacterDataTooLong max len)) x in
    subst P (sym h.3) (frame_same v (Err (CharacterDataTooLong max len)) e)
frame_text v d (Err error) w e h = frame v (length d ∷ d) (Err error) w e h.1
