-- What follows from the definitions of options. Each is a clause of a public function, and so proved.
use Rattle.std.specs.Prelude.{◌≡◌, None, Ok, List, ℕ}
use Rattle.dnw_message_read.specs.declared.code.OptionCode.{OptionCode}
use Rattle.dnw_message_read.specs.Codes.{option_code, option_of_code}
use Rattle.dnw_message_read.specs.Values.{OptionFields}
use Rattle.dnw_message_read.specs.Rules.{IsOptionFields, code_of, option_octets, value_fault}
use Rattle.dnw_message_read.specs.Reading.{OptionOutcome, ReadsOption}

-- What is written is read as the same.
abbrev pub OptionsComeBack : Type 0
OptionsComeBack = (value : OptionFields) → IsOptionFields value → value_fault value ≡ None → ReadsOption (option_of_code (option_code (code_of value))) (option_octets value) (Ok value)

-- Octets are read in one way.
abbrev pub OneOption : Type 0
OneOption = (code : OptionCode) (octets : List ℕ) (one other : OptionOutcome) → ReadsOption code octets one → ReadsOption code octets other → one ≡ other
