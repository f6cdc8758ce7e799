use Rattle.std.proofs.Common.{◌≡◌, take}
use Rattle.std.specs.List.{list_all}
use Rattle.dnw_zone_data.specs.Inside.WordParts.{is_mark}
use Rattle.dnw_zone_data.proofs.words.are_marks.Given as goal

abbrev pub invariant-loop-c : goal.invariant-loop-c
invariant-loop-c l = l.all ≡ list_all is_mark (take l.c-index l.text)
