use Rattle.std.proofs.Common.{◌≡◌, ◌++◌, take}
use Rattle.dnw_zone_values.specs.CommaLists.{item_text}
use Rattle.dnw_zone_values.proofs.items.push_escaped.Given as goal

abbrev pub invariant-loop-c : goal.invariant-loop-c
invariant-loop-c l = l.text.items ≡ l.fn.text.items ++ item_text (take l.c-index l.item)
