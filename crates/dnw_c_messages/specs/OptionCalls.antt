-- What the functions for C put of an EDNS option.
use Rattle.std.specs.Prelude.{◌≡◌, ◌⊎◌, ℕ, List, length, Result}
use Rattle.dnw_message_read.specs.Reading.{ReadsAnyOption}
use Rattle.dnw_message_read.specs.Texts.{option_text}
use Rattle.dnw_message_read.specs.Values.{OptionFields}
use Rattle.dnw_c_base.specs.Results.{Puts, Refuses}
use Rattle.dnw_c_base.specs.declared.failure.Failure.{Failure}
use Rattle.dnw_c_base.specs.declared.failure.Failure.TheVariants.{NoMemory}

-- The text of what the option says is put, or that of its code and octets if they break a rule; or memory ran out.
abbrev pub PutsOption : ℕ → List ℕ → List ℕ → List ℕ → Result ℕ Failure → Type 0
PutsOption code octets old new result =
    ((value : OptionFields) × ReadsAnyOption code octets value × Puts (option_text value) (length (option_text value)) old new result)
    ⊎ Refuses (λ failure. failure ≡ NoMemory) old new result
