-- Why a call on a label, a name or a text fails, as a value that takes no memory, and which error reports it.
use Rattle.std.specs.Prelude.{◌≡◌, ℕ, List, ◌++◌, Result, Ok, Err, ⊤, codes, encode_utf8, string_bytes}
use Rattle.dnw_base.specs.declared.error.ProtoError.{ProtoError}
use Rattle.dnw_base.specs.declared.error.ProtoError.TheVariants.{Decode, Message, Msg, Memory}
use Rattle.dnw_base.specs.declared.error.DecodeError.TheVariants.{LabelBytesTooLong, DomainNameTooLong}

pub data Fault : Type 0 where
  EmptyLabel : Fault
  LabelTooLong : (bytes : ℕ) → Fault
  MalformedLabel : (text : List ℕ) → Fault
  NameTooLong : (size : ℕ) → Fault
  UnrecognizedChar : (char : ℕ) → Fault
  IllegalChar : (char : ℕ) → Fault
  UnfinishedEscape : Fault
  UnconvertedLabels : Fault

-- the error is this fixed text
abbrev pub IsMessage : List ℕ → ProtoError → Type 0
IsMessage text (Message own) = own.now ≡ text
IsMessage text error = ⊥

-- the error is an allocated text with these bytes
abbrev pub IsMsg : List ℕ → ProtoError → Type 0
IsMsg text (Msg own) = string_bytes own ≡ text
IsMsg text error = ⊥

-- the error reports the fault
abbrev pub Reports : Fault → ProtoError → Type 0
Reports EmptyLabel e = IsMessage (codes "Label requires a minimum length of 1") e
Reports (LabelTooLong bytes) e = e ≡ Decode (LabelBytesTooLong bytes)
Reports (MalformedLabel text) e = IsMsg (codes "Malformed label: " ++ text) e
Reports (NameTooLong size) e = e ≡ Decode (DomainNameTooLong size)
Reports (UnrecognizedChar char) e = IsMsg (codes "unrecognized char: " ++ encode_utf8 char) e
Reports (IllegalChar char) e = IsMsg (codes "illegal char: " ++ encode_utf8 char) e
Reports UnfinishedEscape e = IsMessage (codes "unfinished escape") e
Reports UnconvertedLabels e = IsMsg (codes "error converting some labels") e

-- the text of its error is allocated
abbrev pub HasOwnText : Fault → Type 0
HasOwnText (MalformedLabel text) = ⊤
HasOwnText (UnrecognizedChar char) = ⊤
HasOwnText (IllegalChar char) = ⊤
HasOwnText UnconvertedLabels = ⊤
HasOwnText fault = ⊥

-- the definition fails, and the error reports why
abbrev pub Fails : {A : Type 0} → Result A Fault → ProtoError → Type 0
Fails (Ok x) e = ⊥
Fails (Err fault) e = Reports fault e

-- the same, or memory ran out, which is possible only if `RunsOut` holds
abbrev pub FailsOr : {A : Type 0} → Result A Fault → Type 0 → ProtoError → Type 0
FailsOr definition RunsOut Memory = RunsOut
FailsOr definition RunsOut e = Fails definition e

-- the definition fails with an error whose text is allocated
abbrev pub NeedsErrorText : {A : Type 0} → Result A Fault → Type 0
NeedsErrorText (Ok x) = ⊥
NeedsErrorText (Err fault) = HasOwnText fault

-- A call returns what the definition says, or fails as it does. It may run out of memory only if `RunsOut` holds.
abbrev pub Follows : {A : Type 0} → Result A Fault → Type 0 → Result A ProtoError → Type 0
Follows definition RunsOut (Ok x) = definition ≡ Ok x
Follows definition RunsOut (Err e) = FailsOr definition RunsOut e

-- A call makes of the value what the definition says, or fails as it does. If it fails, the value is unchanged.
abbrev pub Updates : {A : Type 0} → Result A Fault → Type 0 → A → Result (Unit {0}) ProtoError → A → Type 0
Updates definition RunsOut before (Ok done) after = definition ≡ Ok after
Updates definition RunsOut before (Err e) after = FailsOr definition RunsOut e × (after ≡ before)

-- the first fault, or what comes of both
infixl 10 ◌>>=◌
abbrev pub ◌>>=◌ : {A B : Type 0} → Result A Fault → (A → Result B Fault) → Result B Fault
(Ok x) >>= f = f x
(Err fault) >>= f = Err fault
