-- Lists of service parameters as text (RFC 9460, section 2.1): in any order when they are parsed, and in the order of their keys
-- when they are printed.
use Rattle.std.specs.Prelude.{ℕ, ◌≡◌, ◌≢◌, ◌⊎◌, true, List, [], ◌∷◌, Some}
use Rattle.dnw_data.specs.declared.kind.ListKind.TheVariants as lists
use Rattle.dnw_data.specs.Values.{FieldValue, params, items}
use Rattle.dnw_zone_values.specs.Params.{ParamValue, in_key_order, params_wire}
use Rattle.dnw_zone_values.specs.Mandatory.{keeps_mandatory}
use Rattle.dnw_zone_values.specs.ParamTexts.{params_text}
use Rattle.dnw_zone_values.specs.ParamWords.{IsParam}
use Rattle.dnw_zone_data.specs.declared.error.Wanted.{Wanted}
use Rattle.dnw_zone_data.specs.declared.error.Wanted.TheVariants.{Mandatory, Params}
use Rattle.dnw_zone_data.specs.Words.{after_spaces, param_word, after_param}

-- The text is that of the parameters that octets are, each after a space. There is none if a key that is mandatory is left out.
abbrev pub PrintsParams : List ℕ → List ℕ → Type 0
PrintsParams own text = (keeps_mandatory own ≡ true) × (params_text own ≡ Some text)

-- the words of a text are these parameters
abbrev pub AreParamWords : List ℕ → List ParamValue → Type 0
AreParamWords left [] = after_spaces left ≡ []
AreParamWords left (p ∷ ps) =
    (after_spaces left ≢ []) × IsParam (param_word (after_spaces left)) p × AreParamWords (after_param (after_spaces left)) ps

-- the words of a text are parameters, no key is there twice, none that is mandatory is left out, and these are their octets; there
-- may be none
abbrev pub AreParams : List ℕ → FieldValue → Type 0
AreParams left value =
    (listed : List ParamValue) × (own : List ParamValue) × AreParamWords left listed × (in_key_order [] listed ≡ Some own)
    × (keeps_mandatory (params_wire own) ≡ true) × (value ≡ params (items lists.Params (params_wire own)))

-- the words of a text are parameters, and no key is there twice
abbrev pub InKeyOrder : List ℕ → Type 0
InKeyOrder left = (listed : List ParamValue) × (own : List ParamValue) × AreParamWords left listed × (in_key_order [] listed ≡ Some own)

-- what is wanted in place of a text that is no field of parameters: that `mandatory` lists keys that are there, if all else is as wanted
abbrev pub IsParamsWanted : List ℕ → Wanted → Type 0
IsParamsWanted left w = (InKeyOrder left × (w ≡ Mandatory)) ⊎ ((¬ (InKeyOrder left)) × (w ≡ Params))
