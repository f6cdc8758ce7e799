use Rattle.std.proofs.Common.{◌≡◌, ◌<◌, drop}
use Rattle.dnw_base.specs.Inside.TypeKeys.{letters_after}
use Rattle.dnw_base.proofs.TypeKeys.{bound}
use Rattle.dnw_base.proofs.type_names.name_key.Given as goal

abbrev pub invariant-loop-i : goal.invariant-loop-i
invariant-loop-i l = (l.letters < bound l.i) × (letters_after l.letters (drop l.i l.fn.name) ≡ letters_after 0 l.fn.name)
