use Rattle.std.proofs.Common.{◌∷◌, take}
use Rattle.std.specs.Prelude.{flat_map}
use Rattle.std.specs.Fmt.{HasWritten, IsPlainFormatter}
use Rattle.dnw_zone_values.specs.Strings.{quote, octet_text}
use Rattle.dnw_zone_values.proofs.string.CharacterStringDisplay.fmt.Given as goal

abbrev pub invariant-loop-octet : goal.invariant-loop-octet
invariant-loop-octet g l =
    IsPlainFormatter l.fn.f → HasWritten g.W.Write.write_str_gives l.fn.f (quote ∷ flat_map octet_text (take l.octet-index l.self.0.now)) l.f
