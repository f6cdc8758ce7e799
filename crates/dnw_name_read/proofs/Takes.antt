-- A decoder takes one name at most, and none where reading stops.
use Rattle.std.proofs.Common.{◌≡◌, ℕ, ◌+◌, ◌-◌, ◌≤◌, Option, List, Result, refl, Ok, Err, IfErr, sym, ◌∙◌, arith}
use Rattle.std.specs.Result.{IsErrOf}
use Rattle.dnw_base.specs.Decoder.{Decoder, advanced}
use Rattle.dnw_base.specs.declared.error.DecodeError.{DecodeError}
use Rattle.dnw_base.specs.declared.error.DecodeError.TheVariants.{Memory}
use Rattle.dnw_name_read.specs.Reading.{Stops, NameAt, TakesName, StopsAt, label, pointer}
use Rattle.dnw_name_read.proofs.Unique.{Reads_unique, Stops_unique, Reads_not_Stops}

pub TakesName_unique : {d after other : Decoder} {ls ls' : List (List ℕ)} {k k' : ℕ} → TakesName d after ls k → TakesName d other ls' k' → (ls ≡ ls') × (after ≡ other)
TakesName_unique {d} h h' =
    let (same, end_is, _) = Reads_unique h.name.reads h'.name.reads in
    (same, h.moved ∙ rw end_is (sym h'.moved))

pub TakesName_not_StopsAt : {d after : Decoder} {ls : List (List ℕ)} {k k' j : ℕ} {error : DecodeError} → TakesName d after ls k → StopsAt d error k' j → ⊥
TakesName_not_StopsAt h fault = let fits = h.name.fits in Reads_not_Stops h.name.reads (omega arith) fault

pub StopsAt_unique : {d : Decoder} {error other : DecodeError} {k k' j j' : ℕ} → StopsAt d error k j → StopsAt d other k' j' → error ≡ other
StopsAt_unique fault fault' = (Stops_unique fault fault').0

-- a decoder that has moved over a name's own octets has taken it
pub TakesName_moved : (d after : Decoder) (ls : List (List ℕ)) (e k : ℕ) → NameAt d.bytes d.index ls e k → d.index ≤ e
    → after ≡ advanced d (e - d.index) → TakesName d after ls k
TakesName_moved d after ls e k name le is =
    let there : d.index + (e - d.index) ≡ e = omega arith in record { end = e; name = name; moved = is ∙ rw there refl }

-- no reading stops for want of memory
Stops_not_memory : {b : List ℕ} {p s n k j : ℕ} {limit : Option ℕ} → Stops b p s limit n Memory k j → ⊥
Stops_not_memory (pointer high low w g least g' prior f) = Stops_not_memory f
Stops_not_memory (label c w g one most fit short f) = Stops_not_memory f

pub no_memory : {A : Type 0} (answer : Result A DecodeError) (d : Decoder) (k j : ℕ) → IfErr answer (λ e. StopsAt d e k j) → IsErrOf answer Memory → ⊥
no_memory (Ok x) d k j h is = absurd cc
no_memory (Err e) d k j h is = let memory : e ≡ Memory = cc in Stops_not_memory (rw memory at h)
