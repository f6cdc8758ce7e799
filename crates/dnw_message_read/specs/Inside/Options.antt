-- How options are kept: the octets that are left of them.
use Rattle.std.specs.Prelude.{ℕ, zero, suc, Some, None, List, [], ◌∷◌, length}
use Rattle.dnw_message_read.specs.Edns.{OptionValue, first_option}

-- the options that octets begin with, at most n
abbrev pub options_in : ℕ → List ℕ → List OptionValue
options_in zero d = []
options_in (suc n) d = elim (first_option d) [ None ↦ [] | Some (x, rest) ↦ x ∷ options_in n rest ]

abbrev pub options_of : List ℕ → List OptionValue
options_of d = options_in (length d) d
