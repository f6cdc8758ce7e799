-- How many octets, pointers and labels a reading or a fault takes, and where a name's own octets lie.
use Rattle.std.proofs.Common.{◌≡◌, ℕ, ◌+◌, ◌*◌, ◌<◌, ◌≤◌, min, Option, Some, List, ◌∷◌, length, slice_get, slice_range, sum_by, arith}
use Rattle.std.specs.List.{AllByRecursion}
use Rattle.std.proofs.lemmas.List.Edits.{length-between}
use Rattle.std.proofs.lemmas.List.Sums.{sum_by-cons}
use Rattle.std.proofs.lemmas.Option.{gets}
use Rattle.dnw_base.specs.Labels.{IsLabel}
use Rattle.dnw_base.specs.Names.{AreLabels}
use Rattle.dnw_base.proofs.Wires.{AreLabels_few}
use Rattle.dnw_base.specs.declared.error.DecodeError.{DecodeError}
use Rattle.dnw_name_read.specs.Reading.{target, Reads, Stops, NameAt, zero_octet, label, pointer}
use Rattle.dnw_name_read.specs.ReadingLaws.{AreBytes, NameSteps, FaultSteps, OwnOctets}

-- the octets of labels in a message, without the closing zero
abbrev pub octets : List (List ℕ) → ℕ
octets ls = sum_by (λ l. length l + 1) ls

-- a label's octets are as many as its length octet says
pub length_label : (b : List ℕ) (p c : ℕ) → p + 1 + c ≤ length b → length (slice_range b (p + 1) (p + 1 + c)) ≡ c
length_label b p c fit = omega (arith, length-between b (p + 1) (p + 1 + c) fit)

-- a label takes its length octet and its own
pub octets_label : (b : List ℕ) (p c : ℕ) (ls : List (List ℕ)) → p + 1 + c ≤ length b
    → octets (slice_range b (p + 1) (p + 1 + c) ∷ ls) ≡ 1 + c + octets ls
octets_label b p c ls fit =
    omega (arith, sum_by-cons (λ (l : List ℕ). length l + 1) (slice_range b (p + 1) (p + 1 + c)) ls, length_label b p c fit)

-- a pointer of bytes leads to one of the first 16384 octets
target_below : (b : List ℕ) (p high low : ℕ) → AreBytes b → slice_get b p ≡ Some high → slice_get b (p + 1) ≡ Some low
    → target high low < 16384
target_below b p high low bytes g g' =
    grind (arith, gets, bytes p, bytes (p + 1))

-- each pointer leads before the start of its segment; explicit: the reading
pub Reads_back : {b : List ℕ} {p s e k : ℕ} {limit : Option ℕ} {ls : List (List ℕ)} → Reads b p s limit ls e k → k ≤ s
Reads_back (zero_octet w g) = omega arith
Reads_back (label c w g one most fit r) = Reads_back r
Reads_back (pointer high low w g least g' prior r) = omega (arith, Reads_back r)

-- and in bytes to one of the first 16384 octets; explicit: that all are bytes, and the reading
Reads_pointers : {b : List ℕ} {p s e k : ℕ} {limit : Option ℕ} {ls : List (List ℕ)} → AreBytes b
    → Reads b p s limit ls e k → k ≤ min s 16384
Reads_pointers bytes (zero_octet w g) = omega arith
Reads_pointers bytes (label c w g one most fit r) = Reads_pointers bytes r
Reads_pointers bytes (pointer high low w g least g' prior r) = omega (arith, target_below _ _ high low bytes g g', Reads_back r)

-- the same of a fault, and each label that it counts takes two octets or more
Stops_counts : {b : List ℕ} {p s n k j : ℕ} {limit : Option ℕ} {error : DecodeError} → AreBytes b → n ≤ 255
    → Stops b p s limit n error k j → (k ≤ min s 16384) × (n + 2 * j ≤ 257)
Stops_counts bytes fits (pointer high low w g least g' prior f) = omega (arith, target_below _ _ high low bytes g g', Stops_counts bytes fits f)
Stops_counts bytes fits (label c w g one most fit short f) = omega (arith, Stops_counts bytes short f)
Stops_counts bytes fits f = (omega arith, omega arith)

-- the labels that are read are labels; explicit: the reading
pub Reads_labels : {b : List ℕ} {p s e k : ℕ} {limit : Option ℕ} {ls : List (List ℕ)} → Reads b p s limit ls e k
    → AllByRecursion IsLabel ls
Reads_labels (zero_octet w g) = tt
Reads_labels (label c w g one most fit r) = let size = length_label _ _ c fit in (record { not_empty = omega arith; not_long = omega arith }, Reads_labels r)
Reads_labels (pointer high low w g least g' prior r) = Reads_labels r

-- a name's own octets lie within the message; explicit: the reading
pub Reads_own : {b : List ℕ} {p s e k : ℕ} {limit : Option ℕ} {ls : List (List ℕ)} → Reads b p s limit ls e k
    → (p < e) × (e ≤ length b)
Reads_own (zero_octet w g) = grind (arith, gets)
Reads_own (label c w g one most fit r) = omega (arith, Reads_own r)
Reads_own (pointer high low w g least g' prior r) = grind (arith, gets)

-- a name has labels, which fit into it, and so few
pub NameAt_labels : {b : List ℕ} {p e k : ℕ} {ls : List (List ℕ)} → NameAt b p ls e k → AreLabels ls
NameAt_labels name = record { each = Reads_labels name.reads; fit = name.fits }

-- a name and a fault take few steps
pub name_steps : NameSteps
name_steps b p ls e k bytes name = (Reads_pointers bytes name.reads, AreLabels_few ls (NameAt_labels name))

pub fault_steps : FaultSteps
fault_steps b p error k j bytes fault = omega (arith, Stops_counts bytes (omega arith) fault)

pub own_octets : OwnOctets
own_octets b p ls e k name = let (after, inside) = Reads_own name.reads in (after, inside, NameAt_labels name)
