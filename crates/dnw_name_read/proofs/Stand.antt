-- A reading stands when bytes follow, and when its segment's start or its limit grows.
use Rattle.std.proofs.Common.{◌≡◌, ℕ, ◌+◌, ◌-◌, ◌<◌, ◌≤◌, Option, Some, None, List, [], ◌++◌, length, drop, slice_get, slice_range, refl, arith, rules, length-append, length-drop}
use Rattle.std.proofs.lemmas.List.{take-append-le, drop-append-le, append-nil}
use Rattle.std.proofs.lemmas.Grind.{common_steps}
use Rattle.std.proofs.lemmas.Option.{gets, slice_get_within}
use Rattle.dnw_name_read.specs.Reading.{IsWithin, Reads, zero_octet, label, pointer}
use Rattle.dnw_name_read.specs.ReadingLaws.{IsNoTighter, StandsBefore, StandsWider}

-- an octet stays at its offset
slice_get_append : (b more : List ℕ) (p c : ℕ) → slice_get b p ≡ Some c → slice_get (b ++ more) p ≡ Some c
slice_get_append b more p c g = grind (arith, common_steps, gets)

-- and so does a part
slice_range_append : (b more : List ℕ) (i j : ℕ) → i ≤ j → j ≤ length b → slice_range (b ++ more) i j ≡ slice_range b i j
slice_range_append b more i j order fit =
    rw (drop-append-le i b more (omega arith), take-append-le (j - i) (drop i b) more (omega (arith, length-drop i b))) refl

-- A reading stands when bytes follow, at a later start, and in a limit that allows as much within the message.
-- Explicit: these bytes, start and limit, their bounds, and the reading.
Reads_stands : {b : List ℕ} {p s e k : ℕ} {limit : Option ℕ} {ls : List (List ℕ)} (more : List ℕ) (t : ℕ) (wider : Option ℕ)
    → s ≤ t → ((q : ℕ) → q < length b → IsWithin q limit → IsWithin q wider) → Reads b p s limit ls e k
    → Reads (b ++ more) p t wider ls e k
Reads_stands {b} {p} more t wider larger h (zero_octet w g) = zero_octet (h p (slice_get_within b p 0 g) w) (slice_get_append b more p 0 g)
Reads_stands {b} {p} more t wider larger h (label c w g one most fit r) =
    rw (← slice_range_append b more (p + 1) (p + 1 + c) (omega arith) fit)
    (label c (h p (omega arith) w) (slice_get_append b more p c g) one most (omega (arith, length-append b more)) (Reads_stands more t wider larger h r))
Reads_stands {b} {p} more t wider larger h (pointer high low w g least g' prior r) =
    pointer high low (h p (slice_get_within b p high g) w) (slice_get_append b more p high g) least (slice_get_append b more (p + 1) low g') (omega arith)
    (Reads_stands more _ (Some t) (omega arith) (λ q inside less. omega arith) r)

-- it stands when bytes follow; explicit: those bytes, and the reading
pub Reads_append : {b : List ℕ} {p s e k : ℕ} {limit : Option ℕ} {ls : List (List ℕ)} (more : List ℕ)
    → Reads b p s limit ls e k → Reads (b ++ more) p s limit ls e k
Reads_append {s} {limit} more r = Reads_stands more s limit (omega arith) (λ q inside w. w) r

-- one of a whole message stands within what follows, limited to that message; explicit: what follows, the reading
pub Reads_limited : {b : List ℕ} {p s e k : ℕ} {ls : List (List ℕ)} (more : List ℕ)
    → Reads b p s None ls e k → Reads (b ++ more) p s (Some (length b)) ls e k
Reads_limited {b} {s} more r = Reads_stands more s (Some (length b)) (omega arith) (λ q inside w. inside) r

-- a wider limit allows as much
IsWithin_wider : (p : ℕ) (limit wider : Option ℕ) → IsNoTighter limit wider → IsWithin p limit → IsWithin p wider
IsWithin_wider p None (Some larger) h w = absurd h
IsWithin_wider p limit wider h w = search (rules, arith)

-- a reading stands at a later start and a wider limit; explicit: these two, their bounds, and the reading
pub Reads_wider : {b : List ℕ} {p s e k : ℕ} {limit : Option ℕ} {ls : List (List ℕ)} (t : ℕ) (wider : Option ℕ)
    → s ≤ t → IsNoTighter limit wider → Reads b p s limit ls e k → Reads b p t wider ls e k
Reads_wider {limit} t wider larger h r = rw append-nil at (Reads_stands [] t wider larger (λ q inside w. IsWithin_wider q limit wider h w) r)

pub stands_before : StandsBefore
stands_before b more p s limit ls e k = Reads_append more

pub stands_wider : StandsWider
stands_wider b p s t limit wider ls e k = Reads_wider t wider
