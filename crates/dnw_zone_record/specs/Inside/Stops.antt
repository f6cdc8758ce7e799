-- Octets at which a run of those that are kept ends.
use Rattle.std.specs.Prelude.{ℕ, Bool, not, ◌==◌, List, get_or}
use Rattle.std.specs.Int.Bits.{bit_and}
use Rattle.dnw_zone_record.specs.declared.scan.Place.{Place}
use Rattle.dnw_zone_record.specs.Lines.{is_kept}

-- an octet that is not kept at a place
abbrev pub is_stop : Place → ℕ → Bool
is_stop place c = not (is_kept place c)

-- an octet that a table has at the place that is its low four bits
abbrev pub is_listed : List ℕ → ℕ → Bool
is_listed table c = c == get_or table (bit_and c 15) 0
