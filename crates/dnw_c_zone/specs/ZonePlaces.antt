-- Places in zone files, of which a caller gives one part after the other.
use Rattle.std.specs.Prelude.{ℕ, ◌+◌, ◌==◌, min, if◌then◌else◌, List, length}
use Rattle.dnw_c_zone.specs.declared.zone_place.FilePlace.{FilePlace}
use Rattle.dnw_zone_file.specs.Places.{place_from}
use Rattle.dnw_zone_file.specs.declared.place.TextPlace.{TextPlace}

-- a sum, which stays at the greatest number that C has for a size
abbrev pub size_sum : ℕ → ℕ → ℕ
size_sum a b = min (a + b) 18446744073709551615

-- the place after more octets, of which the lines and columns are these
abbrev pub moved_by : FilePlace → ℕ → TextPlace → FilePlace
moved_by at len place = record {
  offset = size_sum at.offset len;
  line = size_sum at.line place.line;
  column = if place.line == 0 then size_sum at.column place.column else place.column;
}

-- the place after these octets more
abbrev pub moved : FilePlace → List ℕ → FilePlace
moved at octets = moved_by at (length octets) (place_from (record { line = 0; column = 0 }) octets)
