-- Reading the labels of a prefix one after another.
use Rattle.std.specs.Prelude.{ℕ, ◌+◌, ◌-◌, Bool, nat_lt, if◌then◌else◌, List, ◌++◌, length, take, Result, Ok, Err}
use Rattle.dnw_name_arpa.specs.Arpa.{ArpaPrefix, ArpaFault, TooManyLabels, most_values, values_of, ◌>>=◌}
use Rattle.dnw_name_arpa.specs.declared.reading.Family.{Family}

abbrev pub ended_prefix : Family → Bool → List ℕ → Result ArpaPrefix ArpaFault
ended_prefix family too_many vs = if too_many then Err (TooManyLabels family) else Ok (record { family = family; values = vs })

-- what labels give after the values of those before them
abbrev pub prefix_after : Family → List ℕ → List (List ℕ) → Result ArpaPrefix ArpaFault
prefix_after family vs ls = do
  ws ← values_of family (take (most_values family - length vs) ls)
  ended_prefix family (nat_lt (most_values family) (length vs + length ls)) (vs ++ ws)
