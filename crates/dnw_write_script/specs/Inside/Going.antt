-- What every write of a record keeps, wherever in the buffer it begins.
use Rattle.std.specs.Prelude.{◌≤◌, OnOk}
use Rattle.dnw_write.specs.Encoder.{Encoder}
use Rattle.dnw_write.specs.Emitting.{Outcome}
use Rattle.dnw_write_script.specs.Parts.{Write}

-- A write goes on from the offset, and ends within the maximum if it succeeds.
abbrev pub WritesOn : Write → Type 0
WritesOn write = (v : Encoder) (outcome : Outcome) (w : Encoder) → write v outcome w → (v.offset ≤ w.offset) × OnOk outcome (w.offset ≤ w.max_size)
