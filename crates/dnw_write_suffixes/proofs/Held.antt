-- Candidates whose bytes are kept one after the other.
use Rattle.std.proofs.Common.{rules, tests, ◌≡◌, ◌≢◌, ℕ, zero, suc, ◌+◌, ◌-◌, ◌<◌, ◌≤◌, Bool, true, nat_lt, List, [], ◌∷◌, ◌++◌, length, take, drop, filter, refl, sym, ap, ◌∙◌, subst, arith}
use Rattle.std.specs.List.{All}
use Rattle.std.proofs.lemmas.List.{take-append-le, drop-append-le, take-append-drop, take-map, take_all, append-nil, map-append, length-drop, length-take-le, drop-drop, drop_at}
use Rattle.std.proofs.lemmas.List.Elements.{All-filter, All-map, All-tail, filter_passes}
use Rattle.dnw_base.specs.Names.{labels_wire}
use Rattle.dnw_write_suffixes.specs.Candidates.{Candidate, candidates_before, suffixes}
use Rattle.dnw_write_suffixes.specs.Inside.Store.{AreHeld, AreWithin, IsHeld, candidate_of, held}
use Rattle.dnw_write_suffixes.specs.declared.store.Entry.{Entry}
use Rattle.dnw_write_suffixes.proofs.CandidateLists.{kept_all}

-- ---- bytes that come and go after those that are used

pub held_more : (bytes more : List ℕ) (es : List Entry) → AreWithin (length bytes) es → held (bytes ++ more) es ≡ held bytes es
held_more bytes more [] within = refl
held_more bytes more (e ∷ es) within =
    let here : e.from + e.size ≤ length bytes = within 0 e (omega arith) in
    let part : take e.size (drop e.from (bytes ++ more)) ≡ take e.size (drop e.from bytes) =
    ap (take e.size) (drop-append-le e.from bytes more (omega arith))
    ∙ take-append-le e.size (drop e.from bytes) more (omega (arith, length-drop e.from bytes)) in
    rw (part, held_more bytes more es (All-tail (λ x. x.from + x.size ≤ length bytes) e es within)) refl

pub held_cut : (bytes : List ℕ) (used : ℕ) (es : List Entry) → used ≤ length bytes → AreWithin used es
    → held (take used bytes) es ≡ held bytes es
held_cut bytes used es le within =
    let size = length-take-le used bytes le in
    sym (held_more (take used bytes) (drop used bytes) es (subst (λ n. AreWithin n es) (sym size) within))
    ∙ ap (λ (b : List ℕ). held b es) (take-append-drop used bytes)

pub held_first : (bytes : List ℕ) (n : ℕ) (es : List Entry) → held bytes (take n es) ≡ take n (held bytes es)
held_first bytes n es = sym (take-map (candidate_of bytes) n es)

-- ---- one that is added

pub held_push : (bytes own : List ℕ) (es : List Entry) (from size start : ℕ) → drop from bytes ≡ own → length own ≤ size
    → held bytes (es ++ (record { from = from; size = size; start = start }) ∷ []) ≡ held bytes es ++ (start, own) ∷ []
held_push bytes own es from size start is fits =
    let e : Entry = record { from = from; size = size; start = start } in
    map-append (candidate_of bytes) es (e ∷ [])
    ∙ ap (λ (o : List ℕ). held bytes es ++ (start, o) ∷ []) (ap (take size) is ∙ take_all size own fits)

pub held_one_more : (bytes own : List ℕ) (es : List Entry) (from start : ℕ) → from ≡ length bytes → AreWithin (length bytes) es
    → held (bytes ++ own) (es ++ (record { from = from; size = length own; start = start }) ∷ [])
    ≡ held bytes es ++ (start, own) ∷ []
held_one_more bytes own es from start at within =
    held_push (bytes ++ own) own es from (length own) start (drop_at bytes own from (sym at)) (omega arith)
    ∙ ap (λ (cs : List Candidate). cs ++ (start, own) ∷ []) (held_more bytes own es within)

-- ---- suffixes that are added

-- labels without bytes have none, and others do
pub no_suffix : (cs : List Candidate) (start most : ℕ) (ls : List (List ℕ)) → length (labels_wire ls) ≡ 0
    → cs ++ take most (suffixes start ls) ≡ cs
no_suffix cs start most [] none = rw (take_all {A = Candidate} most [] (omega arith)) (append-nil cs)
no_suffix cs start most (l ∷ ls) none = absurd (omega arith)

pub some_suffix : (start most : ℕ) (ls : List (List ℕ)) → most ≢ 0 → length (labels_wire ls) ≢ 0
    → take most (suffixes start ls) ≢ []
some_suffix start zero ls some bytes e = some refl
some_suffix start (suc most) [] some bytes e = bytes refl
some_suffix start (suc most) (l ∷ ls) some bytes e = absurd cc

pub suffixes_next : (n start : ℕ) (l : List ℕ) (ls : List (List ℕ)) → 0 < n
    → take n (suffixes start (l ∷ ls)) ≡ (start, labels_wire (l ∷ ls)) ∷ take (n - 1) (suffixes (start + (1 + length l)) ls)
suffixes_next zero start l ls some = absurd (omega arith)
suffixes_next (suc n) start l ls some = grind arith

-- the bytes of labels without the first one's
pub rest_bytes : (bytes : List ℕ) (from : ℕ) (l : List ℕ) (ls : List (List ℕ)) → drop from bytes ≡ labels_wire (l ∷ ls)
    → drop (from + (1 + length l)) bytes ≡ labels_wire ls
rest_bytes bytes from l ls is =
    sym (drop-drop (1 + length l) from bytes)
    ∙ (ap (drop (1 + length l)) is ∙ drop_at (length l ∷ l) (labels_wire ls) (1 + length l) (omega arith))

-- ---- those before an offset

pub are_held_before : (n end offset : ℕ) (es : List Entry) → AreHeld n end es
    → AreHeld n offset (filter (λ (e : Entry). nat_lt e.start offset) es)
are_held_before n end offset es all = λ k d less.
    let p : Entry → Bool = λ e. nat_lt e.start offset in
    let e = All-filter p (IsHeld n end) es all k d less in
    let passes = filter_passes p es k d less in
    record { within = e.within; before = search (rules, tests); reached = e.reached }

pub held_before : (bytes : List ℕ) (offset : ℕ) (es : List Entry)
    → held bytes (filter (λ (e : Entry). nat_lt e.start offset) es) ≡ candidates_before offset (held bytes es)
held_before bytes offset [] = refl
held_before bytes offset (e ∷ es) = grind (arith, held_before bytes offset es)

pub all_before : (bytes : List ℕ) (offset : ℕ) (es : List Entry) → All (λ (e : Entry). e.start < offset) es
    → candidates_before offset (held bytes es) ≡ held bytes es
all_before bytes offset es all =
    kept_all (λ (c : Candidate). nat_lt c.0 offset) (held bytes es)
    (All-map (λ (c : Candidate). nat_lt c.0 offset ≡ true) (candidate_of bytes) es
    (λ k d less. let before = all k d less in search (arith, tests)))
