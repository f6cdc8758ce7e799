-- Why there is no answer: what is said of a word that is not what its place asks for, and of memory.
use Rattle.std.specs.Prelude.{◌≡◌, ⊤, ℕ, List}
use Rattle.std.specs.String.{string_bytes}
use Rattle.dns_names_wire.specs.declared.error.ProtoError.TheVariants.{Memory}
use Rattle.dnw_commands.specs.Plain.{escaped_text}
use Rattle.dnw_commands.specs.declared.base.misuse.Misuse.TheVariants.{Wrong}
use Rattle.dnw_commands.specs.declared.base.refusal.Refusal.{Refusal}
use Rattle.dnw_commands.specs.declared.base.refusal.Refusal.TheVariants.{Proto, Usage, Write}

-- memory ran out
abbrev pub IsMemory : Refusal → Type 0
IsMemory (Proto Memory) = ⊤
IsMemory refusal = ⊥

-- This word was found where something else was wanted, and is printed so.
abbrev pub SaysWrong : List ℕ → List ℕ → Refusal → Type 0
SaysWrong wanted word (Usage (Wrong what found)) = (what.now ≡ wanted) × (string_bytes found ≡ escaped_text word)
SaysWrong wanted word refusal = IsMemory refusal

-- memory ran out, or a message has no room
abbrev pub IsMemoryOrWrite : Refusal → Type 0
IsMemoryOrWrite (Write error) = ⊤
IsMemoryOrWrite refusal = IsMemory refusal
