-- What the function for C puts that writes a message again, and why it puts nothing.
use Rattle.std.specs.Prelude.{◌≡◌, ◌⊎◌, ℕ, ◌<◌, ◌≤◌, min, List, length, Result, MatchResult}
use Rattle.dnw_c_base.specs.Failures.{of_decode}
use Rattle.dnw_c_base.specs.declared.failure.Failure.{Failure}
use Rattle.dnw_c_base.specs.declared.failure.Failure.TheVariants as why
use Rattle.dnw_base.specs.Limits.{max_pointers}
use Rattle.dnw_message_read.specs.Headers.{header_size}
use Rattle.dnw_message_read.specs.Messages.{FailsMessage, MessageAt, MessageValue}
use Rattle.dnw_message_read.specs.declared.error.MessageError.{MessageError}
use Rattle.dnw_message_writer.specs.Edns.{most_block}
use Rattle.dnw_message_writer.specs.ListResults.{is_cut}
use Rattle.dnw_message_writer.specs.Padded.{CopiesPadded, FailsToCopyPadded}
use Rattle.dnw_message_writer.specs.declared.copying.CopyError.{CopyError}
use Rattle.dnw_message_writer.specs.declared.list.Written.{Written}
use Rattle.dnw_message_writer.specs.declared.copying.CopyError.TheVariants.{Data, Edns, Memory, TooManyPointers, Write}
use Rattle.dnw_message_writer.specs.declared.state.WriterState.{WriterState}
use Rattle.dnw_c_messages.specs.EdnsCalls.{of_edns}
use Rattle.dnw_c_messages.specs.MessageCalls.{of_message}
use Rattle.dnw_c_messages.specs.WriterCalls.{of_write}

-- the octets begin with this message
abbrev pub IsReadMessage : List ℕ → MessageValue → Type 0
IsReadMessage octets m = (k : ℕ) × MessageAt octets m k × (k ≤ max_pointers)

-- why a message is not copied: a field of the data of a record, EDNS, an item that has no room, too many pointers, or memory
abbrev pub of_copy : CopyError → Failure
of_copy (Data offset error) = of_decode error.cause
of_copy (Edns error) = of_edns error
of_copy (Write error) = of_write error
of_copy TooManyPointers = why.TooManyPointers
of_copy Memory = why.NoMemory

-- The octets begin with a message, and it is copied, in at most so many octets, padded to a multiple of a block.
abbrev pub PutsCopy : List ℕ → ℕ → ℕ → List ℕ → List ℕ → Written → Type 0
PutsCopy octets most block old new packed =
    (m : MessageValue) × (w : WriterState) × IsReadMessage octets m × CopiesPadded m most (min block most_block) old w new
    × (packed ≡ record { len = w.end; truncated = is_cut new })

-- They begin with no message, or the buffer has no room for a header, or the message is not copied.
abbrev pub FailsToPack : List ℕ → ℕ → ℕ → List ℕ → Failure → Type 0
FailsToPack octets most block old failure =
    ((error : MessageError) × FailsMessage octets max_pointers error × (failure ≡ of_message error.kind))
    ⊎ ((length old < header_size) × (failure ≡ why.NoRoom))
    ⊎ ((m : MessageValue) × (error : CopyError) × IsReadMessage octets m × FailsToCopyPadded m most (min block most_block) old error
    × (failure ≡ of_copy error))

-- The copy is put, and what C learns of it is the value.
abbrev pub PacksMessage : List ℕ → ℕ → ℕ → List ℕ → List ℕ → Result Written Failure → Type 0
PacksMessage octets most block old new result = MatchResult result (PutsCopy octets most block old new) (FailsToPack octets most block old)
