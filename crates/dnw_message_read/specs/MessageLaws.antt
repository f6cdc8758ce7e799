-- What follows from the definition of messages. Each is the clause of a public function, and so proved.
use Rattle.std.specs.Prelude.{◌≡◌, ℕ, ◌≤◌, List}
use Rattle.dnw_message_read.specs.declared.error.MessageError.{MessageError}
use Rattle.dnw_message_read.specs.Messages.{FailsMessage, MessageAt, MessageValue}

-- Octets begin with one message at most, and it follows one number of pointers.
abbrev pub OneMessage : Type 0
OneMessage = (b : List ℕ) (m other : MessageValue) (k other_k : ℕ) → MessageAt b m k → MessageAt b other other_k → (m ≡ other) × (k ≡ other_k)

-- If a message is there that follows no more pointers than are allowed, nothing fails.
abbrev pub MessagesDontFail : Type 0
MessagesDontFail = (b : List ℕ) (most : ℕ) (m : MessageValue) (k : ℕ) (error : MessageError) → MessageAt b m k → k ≤ most → FailsMessage b most error → ⊥

-- Reading fails with one error at most.
abbrev pub OneMessageError : Type 0
OneMessageError = (b : List ℕ) (most : ℕ) (error other : MessageError) → FailsMessage b most error → FailsMessage b most other → error ≡ other
