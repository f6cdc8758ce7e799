-- What is at an offset of a message.
use Rattle.std.specs.Prelude.{◌≡◌, ℕ, List}
use Rattle.dnw_base.specs.declared.error.DecodeError.{DecodeError}
use Rattle.dnw_base.specs.Decoder.{Decoder}
use Rattle.dnw_name_read.specs.Reading.{FaultAt}
use Rattle.dnw_c_base.specs.Failures.{of_decode}
use Rattle.dnw_c_base.specs.declared.failure.Failure.{Failure}

-- a decoder at an offset of a message
abbrev pub at_offset : List ℕ → ℕ → Decoder
at_offset message start = record { bytes = message; index = start }

-- no name is at this offset, and that is why
abbrev pub HasNoName : List ℕ → ℕ → Failure → Type 0
HasNoName message start failure = (error : DecodeError) × (k : ℕ) × (j : ℕ) × FaultAt message start error k j × (failure ≡ of_decode error)
