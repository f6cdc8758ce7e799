-- A name that is read at an offset, the octets that it has there, and those of its wire form.
use Rattle.std.proofs.Common.{◌≡◌, ℕ, ◌<◌, ◌≤◌, List, length, Err, ⊎_elim, arith}
use Rattle.std.specs.Prelude.{⊤}
use Rattle.std.proofs.lemmas.Bool.Decides.{leb_tells}
use Rattle.dnw_base.specs.declared.error.DecodeError.{DecodeError}
use Rattle.dnw_base.specs.declared.error.DecodeError.TheVariants.{InsufficientBytes}
use Rattle.dnw_base.specs.Decoder.{Decoder, Takes}
use Rattle.dnw_base.specs.Names.{encoded_size, wire}
use Rattle.dnw_base.proofs.Wires.{length_wire}
use Rattle.dnw_name_read.specs.Reading.{FaultAt, TakesName, no_octet}
use Rattle.dnw_name_read.proofs.Counts.{Reads_own}

-- no name is at an offset that is skipped in vain
pub skipped_past : (first after : Decoder) (message : List ℕ) (start : ℕ) (error : DecodeError)
    → first ≡ record { bytes = message; index = 0 } → Takes first start (λ (done : Unit {0}). ⊤) (Err error) after
    → (k : ℕ) × (j : ℕ) × FaultAt message start error k j
skipped_past first after message start InsufficientBytes is takes =
    let few : length message ≤ start = ⊎_elim
    (λ within. absurd (takes.0 (rw is (omega (arith, within.1)))))
    (λ past. omega (arith, past.1))
    (leb_tells start (length message)) in
    (0, 0, no_octet tt few)
skipped_past first after message start error is takes = absurd takes

-- a name has octets of its own
pub takes_onward : {d after : Decoder} {ls : List (List ℕ)} {k : ℕ} → TakesName d after ls k
    → d.index < after.index
takes_onward {d} takes =
    let (further, inside) = Reads_own takes.name.reads in
    rw takes.moved further

-- which are within the message
pub takes_within : {d after : Decoder} {ls : List (List ℕ)} {k : ℕ} → TakesName d after ls k
    → after.index ≤ length after.bytes
takes_within {d} takes =
    let (further, inside) = Reads_own takes.name.reads in
    rw takes.moved inside

-- the wire form of a name has as many octets as its size says
pub form_size : (ls : List (List ℕ)) → length (wire ls) ≡ encoded_size ls
form_size = length_wire
