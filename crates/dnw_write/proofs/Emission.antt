-- A name is written as the definition says, whole or with a pointer, or it is undone.
use Rattle.std.proofs.Common.{if◌then◌else◌, nat_lt, ◌≡◌, ℕ, suc, ◌+◌, ◌-◌, ◌≤◌, List, [], ◌∷◌, ◌++◌, length, take, drop, Some, None, Ok, Err, refl, sym, ap, ◌∙◌, subst, inl, append_assoc, arith}
use Rattle.std.proofs.lemmas.List.{take_all, take_at, length-take-le, take-append-drop}
use Rattle.dnw_base.specs.declared.error.ProtoError.{ProtoError}
use Rattle.dnw_base.specs.declared.error.ProtoError.TheVariants.{MaxBufferSizeExceeded, Memory}
use Rattle.dnw_base.specs.Names.{encoded_size, labels_wire, wire}
use Rattle.dnw_base.proofs.Wires.{length_wire}
use Rattle.dnw_write.specs.Encoder.{Encoder, HasRoom, Grows, Writes, written}
use Rattle.dnw_write_suffixes.specs.Candidates.{Candidate, candidates_before, suffixes}
use Rattle.dnw_write.specs.EmittedName.{EmitsAs, Share, counted, emitted, kept, newly_kept, pointer_to, so_far}
use Rattle.dnw_write.specs.Inside.Sharing.{share_of}

-- ---- all suffixes are kept where there is no pointer

pub length_suffixes : (p : ℕ) (ls : List (List ℕ)) → length (suffixes p ls) ≡ length ls
length_suffixes p [] = refl
length_suffixes p (l ∷ ls) = ap suc (length_suffixes (p + 1 + length l) ls)

pub kept_all : (v : Encoder) (ls : List (List ℕ)) (n : ℕ) → length ls ≤ n → kept v ls n ≡ newly_kept v ls None
kept_all v ls n le =
    let all = take_all n (suffixes v.offset ls) (omega (arith, le, length_suffixes v.offset ls))
    ∙ sym (take_all (length ls) (suffixes v.offset ls) (omega (arith, length_suffixes v.offset ls))) in
    ap (λ (cs : List Candidate). if nat_lt (v.offset + length (labels_wire ls)) 16383 then take (v.candidate_limit - length v.candidates) cs else []) all

-- ---- whole

module _ (v : Encoder) (ls : List (List ℕ)) (room : HasRoom v (encoded_size ls)) where
  -- memory for the bytes is refused
  undone : (m : Encoder) (error : ProtoError) (more : List Candidate)
      → Writes (record v { candidates = v.candidates ++ more }) (wire ls) (Err error) m
      → EmitsAs v ls None (Err Memory) (record m { candidates = take (length v.candidates) m.candidates })
  undone m Memory more h =
      let back : take (length v.candidates) (v.candidates ++ more) ≡ v.candidates = take_at v.candidates more (length v.candidates) refl in
      (room, inl h.1, ap (λ (x : Encoder). record x { candidates = take (length v.candidates) x.candidates }) h.2 ∙ ap (λ (cs : List Candidate). record v { candidates = cs }) back)
  undone m (MaxBufferSizeExceeded size) more h = absurd (omega (arith, room, h.0, length_wire ls))
  undone m error more h = absurd h

  pub whole_undone : (u m : Encoder) (bytes : List ℕ) (error : ProtoError) (more : List Candidate) → u ≡ record v { candidates = v.candidates ++ more }
      → bytes ≡ wire ls → Writes u bytes (Err error) m → EmitsAs v ls None (Err Memory) (record m { candidates = take (length v.candidates) m.candidates })
  whole_undone u m bytes error more same is h =
      undone m error more (subst (λ b. Writes (record v { candidates = v.candidates ++ more }) b (Err error) m) is (subst (λ x. Writes x bytes (Err error) m) same h))

  pub whole_done : (u m : Encoder) (bytes : List ℕ) (names : ℕ) (more : List Candidate) → u ≡ record v { candidates = v.candidates ++ more }
      → bytes ≡ wire ls → more ≡ newly_kept v ls None → names ≡ counted v → Writes u bytes (Ok tt) m
      → EmitsAs v ls None (Ok tt) (record m { names = names })
  whole_done u m bytes names more same is all count h =
      let made = h.1 ∙ (ap (λ (x : Encoder). written x bytes) same ∙ ap (λ (b : List ℕ). written (record v { candidates = v.candidates ++ more }) b) is) in (
        room,
        ap (λ (x : Encoder). record x { names = names }) made
            ∙ (ap (λ (cs : List Candidate). record (written v (wire ls)) { candidates = v.candidates ++ cs; names = names }) all
            ∙ ap (λ n. record (written v (wire ls)) { candidates = v.candidates ++ newly_kept v ls None; names = n }) count),
      )

-- ---- with a pointer

pub labels_wire_append : (front back : List (List ℕ)) → labels_wire (front ++ back) ≡ labels_wire front ++ labels_wire back
labels_wire_append [] back = refl
labels_wire_append (l ∷ front) back =
    ap (λ (b : List ℕ). length l ∷ (l ++ b)) (labels_wire_append front back) ∙ ap (λ (b : List ℕ). length l ∷ b) (sym (append_assoc l (labels_wire front) (labels_wire back)))

-- the bytes before the pointer
pub front_bytes : (ls : List (List ℕ)) (n size : ℕ) (bytes : List ℕ) → bytes ≡ wire ls → size ≡ length (labels_wire (take n ls))
    → take size bytes ≡ labels_wire (take n ls)
front_bytes ls n size bytes is size_is =
    let front = labels_wire (take n ls) in
    let behind = labels_wire (drop n ls) in
    let parts : labels_wire ls ≡ front ++ behind = ap labels_wire (sym (take-append-drop n ls)) ∙ labels_wire_append (take n ls) (drop n ls) in
    let whole : bytes ≡ front ++ (behind ++ 0 ∷ []) = is ∙ (ap (λ (b : List ℕ). b ++ 0 ∷ []) parts ∙ append_assoc front behind (0 ∷ [])) in
    ap (take size) whole ∙ take_at front (behind ++ 0 ∷ []) size (sym size_is)

-- so many suffixes begin before the pointer
pub kept_front : (v : Encoder) (ls : List (List ℕ)) (n place : ℕ) → n ≤ length ls → kept v ls n ≡ newly_kept v ls (Some (share_of ls n place))
kept_front v ls n place within = ap (kept v ls) (sym (length-take-le n ls within))

-- memory for the bytes is refused
pub shared_undone : (v u m : Encoder) (ls : List (List ℕ)) (share : Share) (front : List ℕ) (more : List Candidate)
    → HasRoom v (length (labels_wire ls)) → u ≡ record v { candidates = v.candidates ++ more } → front ≡ labels_wire share.front
    → Grows u (length (front ++ pointer_to share.target)) → m ≡ u
    → EmitsAs v ls (Some share) (Err Memory) (record m { candidates = take (length v.candidates) m.candidates })
shared_undone v u m ls share front more room first is grows same =
    let back : take (length v.candidates) (v.candidates ++ more) ≡ v.candidates = take_at v.candidates more (length v.candidates) refl in
    let needs = subst (λ f. Grows v (length (f ++ pointer_to share.target))) is (subst (λ x. Grows x (length (front ++ pointer_to share.target))) first grows) in (
      room,
      inl needs,
      ap (λ (x : Encoder). record x { candidates = take (length v.candidates) x.candidates }) (same ∙ first)
          ∙ ap (λ (cs : List Candidate). record v { candidates = cs }) back,
    )

pub shared_done : (v u m : Encoder) (ls : List (List ℕ)) (share : Share) (front : List ℕ) (names size : ℕ) (more cs : List Candidate)
    → HasRoom v (length (labels_wire ls)) → u ≡ record v { candidates = v.candidates ++ more } → more ≡ newly_kept v ls (Some share)
    → front ≡ labels_wire share.front → size ≡ length (labels_wire share.front) → names ≡ counted v
    → m ≡ record u { bytes = so_far u ++ (front ++ pointer_to share.target); offset = u.offset + length (front ++ pointer_to share.target) }
    → cs ≡ candidates_before (v.offset + size) m.candidates
    → EmitsAs v ls (Some share) (Ok tt) (record m { candidates = cs; names = names })
shared_done v u m ls share front names size more cs room first all is size_is count second cut =
    let w = emitted v ls (Some share) in
    let bytes : List ℕ → Encoder = λ f. record v {
      bytes = so_far v ++ (f ++ pointer_to share.target);
      offset = v.offset + length (f ++ pointer_to share.target);
      candidates = v.candidates ++ more;
    } in
    let made : m ≡ bytes (labels_wire share.front) =
    second ∙ (ap (λ (x : Encoder). record x { bytes = so_far x ++ (front ++ pointer_to share.target); offset = x.offset + length (front ++ pointer_to share.target) }) first
    ∙ ap bytes is) in
    let left : cs ≡ w.candidates =
    cut ∙ (ap (λ (x : Encoder). candidates_before (v.offset + size) x.candidates) made
    ∙ (ap (λ n. candidates_before (v.offset + n) (v.candidates ++ more)) size_is
    ∙ ap (λ (ds : List Candidate). candidates_before (v.offset + length (labels_wire share.front)) (v.candidates ++ ds)) all)) in (
      room,
      ap (λ (x : Encoder). record x { candidates = cs; names = names }) made
          ∙ (ap (λ (ds : List Candidate). record w { candidates = ds; names = names }) left ∙ ap (λ n. record w { names = n }) count),
    )
