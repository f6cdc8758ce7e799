-- What a call reports that did not write a name.
use Rattle.std.specs.Prelude.{ℕ, Result, Ok, Err}
use Rattle.dnw_base.specs.declared.error.ProtoError.TheVariants.{MaxBufferSizeExceeded}
use Rattle.dnw_base.specs.declared.error.ProtoError.{ProtoError}
use Rattle.dnw_write.specs.declared.encoder.names.Unwritten.{Unwritten}
use Rattle.dnw_write.specs.Emitting.{Outcome}

-- the outcome of a call, with the maximum size
abbrev pub reported : ℕ → Result (Unit {0}) Unwritten → Outcome
reported max (Ok done) = Ok done
reported max (Err Unwritten.Full) = Err (MaxBufferSizeExceeded max)
reported max (Err Unwritten.Memory) = Err ProtoError.Memory
