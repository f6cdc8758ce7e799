-- What follows from the definitions of the texts of service parameters. Each is the clause of a public function, and so proved.
use Rattle.std.specs.Prelude.{◌≤◌, length}
use Rattle.dnw_zone_values.specs.Octets.{IsOctets}
use Rattle.dnw_zone_values.specs.Spelling.{ComesBack}
use Rattle.dnw_zone_values.specs.ParamKeys.{max_key}
use Rattle.dnw_zone_values.specs.Params.{ParamValue}
use Rattle.dnw_zone_values.specs.ParamTexts.{max_value, param_text}
use Rattle.dnw_zone_values.specs.ParamWords.{IsParam}

-- a parameter whose key and number of octets are written in two octets each (RFC 9460, section 2.2)
abbrev pub IsParamValue : ParamValue → Type 0
IsParamValue p = (p.key ≤ max_key) × IsOctets p.octets × (length p.octets ≤ max_value)

-- What is printed of a parameter is that parameter, and no other.
abbrev pub ParamsComeBack : Type 0
ParamsComeBack = ComesBack IsParamValue (λ p. param_text p.key p.octets) IsParam
