use Rattle.std.proofs.Common.{◌≡◌, ◌+◌, ◌*◌, ◌≤◌, ◌++◌, take}
use Rattle.arrayvec.specs.ArrayString.{array_string_len}
use Rattle.dnw_name_text.specs.NameTexts.{label_octets}
use Rattle.dnw_name_text.proofs.printing.push_label.Given as goal

abbrev pub invariant-loop-octet : goal.invariant-loop-octet
invariant-loop-octet g l = record {
  text : l.out.bytes ≡ l.fn.out.bytes ++ label_octets (take l.octet-index l.label);
  room : array_string_len l.out ≤ array_string_len l.fn.out + 4 * l.octet-index;
}
