use Rattle.std.proofs.Common.{take}
use Rattle.std.specs.Fmt.{HasWritten, IsPlainFormatter}
use Rattle.dnw_zone_values.specs.Octets.{hex_text}
use Rattle.dnw_zone_values.proofs.octets.HexadecimalDisplay.fmt.Given as goal

abbrev pub invariant-loop-octet : goal.invariant-loop-octet
invariant-loop-octet g l = IsPlainFormatter l.fn.f → HasWritten g.W.Write.write_str_gives l.fn.f (hex_text (take l.octet-index l.self.0.now)) l.f
