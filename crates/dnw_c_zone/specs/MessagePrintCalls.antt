-- What the functions for C put of a message as text, in the layout of `dig` or as JSON (RFC 8427): a part, from an offset in the text on.
use Rattle.std.specs.Prelude.{◌≡◌, ◌≤◌, ◌⊎◌, ◌++◌, ℕ, List, length, min, take, drop, Result, MatchResult}
use Rattle.dnw_message_read.specs.Messages.{FailsMessage, MessageAt, MessageValue}
use Rattle.dnw_message_read.specs.declared.error.MessageError.{MessageError}
use Rattle.dnw_message_read.specs.declared.error.MessageErrorKind.{MessageErrorKind}
use Rattle.dnw_message_read.specs.declared.error.MessageErrorKind.TheVariants.{Decode, TooManyPointers}
use Rattle.dnw_c_base.specs.Failures.{of_decode}
use Rattle.dnw_c_base.specs.Results.{Refuses}
use Rattle.dnw_c_base.specs.declared.failure.Failure.{Failure}
use Rattle.dnw_c_base.specs.declared.failure.Failure.TheVariants as why
use Rattle.dnw_c_zone.specs.declared.message_printing.PrintedPart.{PrintedPart}

-- what is wrong with an item
abbrev pub of_message : MessageErrorKind → Failure
of_message (Decode error) = of_decode error
of_message TooManyPointers = why.TooManyPointers

-- No message begins these octets, or one whose names follow more pointers than this.
abbrev pub HasNoMessage : List ℕ → ℕ → Failure → Type 0
HasNoMessage octets most failure = (error : MessageError) × FailsMessage octets most error × (failure ≡ of_message error.kind)

-- As much of a text, from an offset on, as there is room for is put, and its length and that of the whole text are returned.
abbrev pub IsPart : List ℕ → ℕ → List ℕ → List ℕ → PrintedPart → Type 0
IsPart text start old new printed =
    (printed.len ≡ min (length (drop start text)) (length old)) × (printed.total ≡ length text)
    × (new ≡ take printed.len (drop start text) ++ drop printed.len old)

-- A part of a text is put, unless memory runs out.
abbrev pub PutsText : ℕ → List ℕ → List ℕ → Result PrintedPart Failure → Type 0
PutsText start old new result =
    ((text : List ℕ) × MatchResult result (IsPart text start old new) (λ failure. ⊥))
    ⊎ Refuses (λ failure. failure ≡ why.NoMemory) old new result

-- The octets begin with a message whose names follow so many pointers at most, and a part of its text is put.
abbrev pub PutsMessage : List ℕ → ℕ → ℕ → List ℕ → List ℕ → Result PrintedPart Failure → Type 0
PutsMessage octets most start old new result =
    ((m : MessageValue) × (k : ℕ) × MessageAt octets m k × (k ≤ most) × PutsText start old new result)
    ⊎ Refuses (HasNoMessage octets most) old new result
