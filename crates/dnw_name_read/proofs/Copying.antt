-- A copy of a name, run by run.
use Rattle.std.proofs.Common.{◌≡◌, ℕ, suc, ◌+◌, ◌-◌, ◌<◌, ◌≤◌, Option, List, [], ◌∷◌, ◌++◌, length, take, drop, get_or, slice_range, refl, sym, ap, ◌∙◌, append_assoc, add-one, arith, length-append, length-take-le}
use Rattle.std.proofs.Math.Seq.{take-add, drop-cons}
use Rattle.std.proofs.lemmas.List.{append-nil, drop-drop, take_at}
use Rattle.std.proofs.lemmas.Grind.{common_steps}
use Rattle.std.proofs.lemmas.Slice.{drop-append-drop}
use Rattle.std.proofs.lemmas.List.Edits.{length-between, between_none}
use Rattle.std.proofs.lemmas.Option.{get_or_from_slice_get, slice_get_within}
use Rattle.dnw_base.specs.Names.{encoded_size, wire}
use Rattle.dnw_name_read.specs.Buffers.{put}
use Rattle.dnw_name_read.specs.Reading.{target, Reads, zero_octet, label, pointer}
use Rattle.dnw_name_read.specs.Inside.Found.{labels_at, StandsAt, NameLiesAt, CopiesRuns}
use Rattle.dnw_name_read.proofs.Counts.{length_label, Reads_own}
use Rattle.dnw_base.proofs.Wires.{wire_cons, length_wire}
use Rattle.dnw_name_read.proofs.Found.{here, StandsAt_reads}

-- a part is its front and the rest
pub slice_range_split : (b : List ℕ) (i j k : ℕ) → i ≤ j → j ≤ k → slice_range b i k ≡ slice_range b i j ++ slice_range b j k
slice_range_split b i j k first second = grind (arith, common_steps, take-add (j - i) (k - j) (drop i b), drop-drop (j - i) i b)

-- and its first octet and the rest
pub slice_range_cons : (b : List ℕ) (p q : ℕ) → p < length b → p < q → slice_range b p q ≡ get_or b p 0 ∷ slice_range b (p + 1) q
slice_range_cons b p q inside some =
    let many : q - p ≡ suc (q - (p + 1)) = omega arith in
    rw (many, drop-cons b p 0 inside, ← add-one p) refl

-- the octets of a label and the form of what follows make the form of both
label_form : (b : List ℕ) (p c : ℕ) (ls : List (List ℕ)) → get_or b p 0 ≡ c → p + 1 + c ≤ length b
    → slice_range b p (p + 1 + c) ++ wire ls ≡ wire (slice_range b (p + 1) (p + 1 + c) ∷ ls)
label_form b p c ls octet there =
    rw (slice_range_cons b p (p + 1 + c) (omega arith) (omega arith), octet, wire_cons, length_label b p c there) refl

-- where no pointer is followed, a name's own octets are its uncompressed form
pub Reads_plain : {b : List ℕ} {p s e k : ℕ} {limit : Option ℕ} {ls : List (List ℕ)} → Reads b p s limit ls e k → k ≡ 0
    → slice_range b p e ≡ wire ls
Reads_plain {b} {p} (zero_octet w g) none =
    rw (slice_range_cons b p (p + 1) (slice_get_within b p 0 g) (omega arith), get_or_from_slice_get b p 0 0 g, between_none) refl
Reads_plain {b} {p} (label {e = end} {ls = rest} c w g one most fit r) none =
    let (behind, _) = Reads_own r in
    rw (slice_range_split b p (p + 1 + c) end (omega arith) (omega arith), Reads_plain r none) (label_form b p c rest (get_or_from_slice_get b p c 0 g) fit)
Reads_plain (pointer high low w g least g' prior r) none = absurd (omega arith)

-- a name whose octets are all at p stands in one piece
pub LiesAt_plain : {b : List ℕ} {p size count head tail : ℕ} → NameLiesAt b p size count head tail → head ≡ size
    → (p + size ≤ length b) × (slice_range b p (p + size) ≡ wire (labels_at b p))
LiesAt_plain {b} {p} {size} {count} {head} {tail} h whole =
    let two = h.pieces (omega (arith, whole, h.stands.size_is)) in
    let none : tail + (size - head) ≡ tail = omega (arith, whole) in
    (omega (arith, two.front, whole), rw whole at (rw (none, between_none, append-nil) at two.form))

-- the copy of a name begins
pub Copies_start : {b : List ℕ} {p end size count pointers : ℕ} (out : List ℕ) → StandsAt b p end size count pointers → CopiesRuns b p p p out out 0
Copies_start {p} out h = record { segment = p; on = StandsAt_reads h; counts = omega arith; whole = rw between_none refl }

-- what is put at an offset is before what follows it, and the rest is unchanged
put_there : (out after more : List ℕ) (at size n : ℕ) → after ≡ take at out ++ (more ++ drop (at + length more) out) → size ≡ at + length more
    → size ≤ n → n ≤ length out → (take size after ≡ take at out ++ more) × (drop n after ≡ drop n out)
put_there out after more at size n is size_is order room =
    let front : length (take at out ++ more) ≡ size = omega (arith, length-append {A = ℕ}, length-take-le at out (omega arith)) in
    let whole : after ≡ (take at out ++ more) ++ drop size out = rw (size_is, append_assoc) is in
    (ap (take size) whole ∙ take_at _ _ size front, ap (drop n) whole ∙ drop-append-drop size out _ n order front)

module _ {b : List ℕ} {start run p : ℕ} {buffer out : List ℕ} {filled : ℕ} (h : CopiesRuns b start run p buffer out filled) where
  -- the last run ends with the zero
  pub Copies-end : (after : List ℕ) → get_or b p 0 ≡ 0
      → after ≡ take filled out ++ (slice_range b run (p + 1) ++ drop (filled + length (slice_range b run (p + 1))) out)
      → after ≡ put buffer (wire (labels_at b start))
  Copies-end after z is =
      let none = (here h.on).end z in
      let last : slice_range b p (p + 1) ≡ 0 ∷ [] = rw (slice_range_cons b p (p + 1) h.on.inside (omega arith), z, between_none) refl in
      let size : length (wire (labels_at b start)) ≡ filled + length (slice_range b run (p + 1)) =
      omega (arith, h.counts, ap (λ ls. length (wire ls)) none, length-between b run (p + 1) (omega (arith, h.on.inside))) in
      is ∙ rw (← size, slice_range_split b run p (p + 1) h.counts.order (omega arith), last, append_assoc) (rw none at h.whole)

  -- a label is passed
  pub Copies-label : 1 ≤ get_or b p 0 → get_or b p 0 < 192 → CopiesRuns b start run (p + 1 + get_or b p 0) buffer out filled
  Copies-label some less =
      let (labels, there, on) = (here h.on).label some less in
      let c : ℕ = get_or b p 0 in
      let form = label_form b p c (labels_at b (p + 1 + c)) refl there in
      record {
        segment = h.segment;
        on = on;
        counts = omega (arith, h.counts, ap (λ ls. length (wire ls)) labels, ap length form, length-append {A = ℕ}, length-between b p (p + 1 + c) there);
        whole = rw (slice_range_split b run p (p + 1 + c) h.counts.order (omega arith), append_assoc (slice_range b run p), ← append_assoc (slice_range b p (p + 1 + c)), form) (rw labels at h.whole);
      }

  -- a pointer is followed, and the run before it is written
  pub Copies-pointer : (to : ℕ) (after : List ℕ) → to ≡ target (get_or b p 0) (get_or b (p + 1) 0) → 192 ≤ get_or b p 0
      → length (wire (labels_at b start)) ≤ length out
      → after ≡ take filled out ++ (slice_range b run p ++ drop (filled + length (slice_range b run p)) out)
      → CopiesRuns b start to to buffer after (filled + (p - run))
  Copies-pointer to after to_is high room is =
      let (labels, there, prior, on) = rw (← to_is) at ((here h.on).pointer high) in
      let (front, rest) = put_there out after (slice_range b run p) filled (filled + (p - run)) (length (wire (labels_at b start))) is (omega (arith, length-between b run p (omega (arith, h.on.inside)))) (omega (arith, h.counts)) room in
      record {
        segment = to;
        on = on;
        counts = omega (arith, h.counts, ap (λ ls. length (wire ls)) labels);
        whole = rw (between_none, ← labels, front, rest, append_assoc) h.whole;
      }

-- two pieces, one after the other
pub two_runs : (out middle after front back : List ℕ) (head : ℕ) → middle ≡ take 0 out ++ (front ++ drop (0 + length front) out) → head ≡ length front
    → after ≡ take head middle ++ (back ++ drop (head + length back) middle) → length front + length back ≤ length out → after ≡ put out (front ++ back)
two_runs out middle after front back head first size second room =
    let (begins, rest) = put_there out middle front 0 head (head + length back) first (omega (arith, size)) (omega arith) (omega (arith, size)) in
    let end : length (front ++ back) ≡ head + length back = omega (arith, size, length-append front back) in
    second ∙ rw (begins, rest, end) (sym (append_assoc front back (drop (head + length back) out)))

-- what is taken of a buffer that a wire form was put into
pub wire_taken : (ls : List (List ℕ)) (size : ℕ) (buffer out : List ℕ) → size ≡ encoded_size ls → out ≡ put buffer (wire ls) → take size out ≡ wire ls
wire_taken ls size buffer out size_is is =
    let all : length (wire ls) ≡ size = omega (arith, size_is, length_wire ls) in
    ap (take size) is ∙ take_at (wire ls) (drop (length (wire ls)) buffer) size all

-- how a copy begins, goes on and ends
pub ruleset copying = (Copies_start, Copies-end, Copies-label, Copies-pointer)
