-- The labels that are read at an offset are those that a walk finds there, and what follows an element of a name.
use Rattle.std.proofs.Common.{◌≡◌, ℕ, zero, suc, ◌+◌, ◌<◌, ◌≤◌, Option, List, [], ◌∷◌, length, get_or, slice_range, refl, arith}
use Rattle.std.proofs.lemmas.Bool.Decides.{nat_tests}
use Rattle.std.proofs.lemmas.Option.{gets}
use Rattle.dnw_base.specs.Names.{AreLabels, encoded_size}
use Rattle.dnw_base.proofs.Wires.{AreLabels_few}
use Rattle.dnw_name_read.specs.Reading.{target, Reads, NameAt, zero_octet, label, pointer}
use Rattle.dnw_name_read.specs.Inside.Found.{labels_in_steps, labels_at, StandsAt, ReadsOn, MoreAt}
use Rattle.dnw_name_read.proofs.Counts.{Reads_back, Reads_own, NameAt_labels}

labels_in_steps_Reads : (n : ℕ) {b : List ℕ} {p s e k : ℕ} {limit : Option ℕ} {ls : List (List ℕ)}
    → Reads b p s limit ls e k → length ls + k < n → labels_in_steps n b p ≡ ls
labels_in_steps_Reads zero r less = absurd (omega arith)
labels_in_steps_Reads (suc n) (zero_octet w g) less = grind (arith, nat_tests, gets)
labels_in_steps_Reads (suc n) (label c w g one most fit r) less = grind (arith, nat_tests, gets, labels_in_steps_Reads n r (omega arith))
labels_in_steps_Reads (suc n) (pointer high low w g least g' prior r) less = grind (arith, nat_tests, gets, labels_in_steps_Reads n r (omega arith))

-- the labels that are read at p, in a segment that began there or before, are those that are found there, and are read on
Reads_more : {b : List ℕ} {p s e k : ℕ} {limit : Option ℕ} {ls : List (List ℕ)} → Reads b p s limit ls e k → s ≤ p → length ls ≤ 127
    → (labels_at b p ≡ ls) × ReadsOn b s p
unfolding labels_at
Reads_more {e} {k} {limit} r back few =
    let same = labels_in_steps_Reads _ r (omega (arith, Reads_back r)) in
    (same, record { limit = limit; end = e; pointers = k; reads = rw same r; back = back; few = rw same few; inside = omega (arith, Reads_own r) })

-- a name has few labels
pub NameAt_few : (b : List ℕ) (p : ℕ) (ls : List (List ℕ)) (e k : ℕ) → NameAt b p ls e k → length ls ≤ 127
NameAt_few b p ls e k name = AreLabels_few ls (NameAt_labels name)

pub labels_at_NameAt : (b : List ℕ) (p : ℕ) (ls : List (List ℕ)) (e k : ℕ) → NameAt b p ls e k → labels_at b p ≡ ls
labels_at_NameAt b p ls e k name = (Reads_more name.reads (omega arith) (NameAt_few b p ls e k name)).0

-- what a walk has found is what stands there
pub StandsAt_found : {b : List ℕ} {p e size count k : ℕ} (ls : List (List ℕ)) → NameAt b p ls e k → size ≡ encoded_size ls → count ≡ length ls
    → StandsAt b p e size count k
StandsAt_found ls name size_is count_is =
    let same = labels_at_NameAt _ _ ls _ _ name in
    record { name = rw same name; size_is = rw same size_is; count_is = rw same count_is }

-- it has labels, which fit into a name
pub StandsAt_labels : {b : List ℕ} {p e size count k : ℕ} → StandsAt b p e size count k → AreLabels (labels_at b p)
StandsAt_labels h = NameAt_labels h.name

-- a label of c octets is at p, or a pointer to t, in a segment that began at s
abbrev pub LabelHere : List ℕ → ℕ → ℕ → ℕ → Type 0
LabelHere b s p c =
    (labels_at b p ≡ slice_range b (p + 1) (p + 1 + c) ∷ labels_at b (p + 1 + c)) × (p + 1 + c ≤ length b) × ReadsOn b s (p + 1 + c)

abbrev pub PointerHere : List ℕ → ℕ → ℕ → ℕ → Type 0
PointerHere b s p t = (labels_at b p ≡ labels_at b t) × (p + 1 < length b) × (t < s) × ReadsOn b t t

-- the element at p, by its first octet
pub record Here (b : List ℕ) (s p : ℕ) : Type 0 where
  pub end : get_or b p 0 ≡ 0 → labels_at b p ≡ []
  pub label : 1 ≤ get_or b p 0 → get_or b p 0 < 192 → LabelHere b s p (get_or b p 0)
  pub pointer : 192 ≤ get_or b p 0 → PointerHere b s p (target (get_or b p 0) (get_or b (p + 1) 0))

Reads_here : {b : List ℕ} {p s e k : ℕ} {limit : Option ℕ} {ls : List (List ℕ)} → Reads b p s limit ls e k
    → labels_at b p ≡ ls → s ≤ p → length ls ≤ 127 → Here b s p
Reads_here (zero_octet w g) is back few = grind (arith, gets)
Reads_here (label c w g one most fit r) is back few = let (same, on) = Reads_more r (omega arith) (omega arith) in grind (arith, gets)
Reads_here (pointer high low w g least g' prior r) is back few = let (same, on) = Reads_more r (omega arith) few in grind (arith, gets)

pub here : {b : List ℕ} {s p : ℕ} → ReadsOn b s p → Here b s p
here on = Reads_here on.reads refl on.back on.few

-- what follows is read on, wherever the segment began
pub end_more : (b : List ℕ) (p : ℕ) → MoreAt b p → get_or b p 0 ≡ 0 → labels_at b p ≡ []
end_more b p h = (here h.on).end

pub label_more : (b : List ℕ) (p : ℕ) → MoreAt b p → 1 ≤ get_or b p 0 → get_or b p 0 < 192
    → (labels_at b p ≡ slice_range b (p + 1) (p + 1 + get_or b p 0) ∷ labels_at b (p + 1 + get_or b p 0))
    × (p + 1 + get_or b p 0 ≤ length b) × MoreAt b (p + 1 + get_or b p 0)
label_more b p h some less = let (labels, there, on) = (here h.on).label some less in (labels, there, record { segment = _; on = on })

pub pointer_more : (b : List ℕ) (p : ℕ) → MoreAt b p → 192 ≤ get_or b p 0
    → (labels_at b p ≡ labels_at b (target (get_or b p 0) (get_or b (p + 1) 0))) × (p + 1 < length b)
    × (target (get_or b p 0) (get_or b (p + 1) 0) < p) × MoreAt b (target (get_or b p 0) (get_or b (p + 1) 0))
pointer_more b p h high =
    let (labels, there, prior, on) = (here h.on).pointer high in (labels, there, omega (arith, h.on.back), record { segment = _; on = on })

-- a name's labels are read at its start
pub StandsAt_reads : {b : List ℕ} {p end size count pointers : ℕ} → StandsAt b p end size count pointers → ReadsOn b p p
StandsAt_reads h = (Reads_more h.name.reads (omega arith) (NameAt_few _ _ _ _ _ h.name)).1

pub StandsAt_more : {b : List ℕ} {p end size count pointers : ℕ} → StandsAt b p end size count pointers → MoreAt b p
StandsAt_more h = record { segment = _; on = StandsAt_reads h }
