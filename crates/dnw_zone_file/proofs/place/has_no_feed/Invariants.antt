use Rattle.std.proofs.Common.{◌≡◌, take}
use Rattle.std.specs.List.{list_all}
use Rattle.dnw_zone_file.specs.Inside.PlaceLines.{is_no_feed}
use Rattle.dnw_zone_file.proofs.place.has_no_feed.Given as goal

abbrev pub invariant-loop-c : goal.invariant-loop-c
invariant-loop-c l = l.none ≡ list_all is_no_feed (take l.c-index l.octets)
