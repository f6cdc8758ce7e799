use Rattle.std.proofs.Common.{◌≡◌, ◌+◌, ◌*◌, ◌≤◌, ◌++◌, take, false}
use Rattle.std.specs.List.{flat_map}
use Rattle.arrayvec.specs.ArrayString.{array_string_len}
use Rattle.dnw_name_form.specs.LabelText.{byte_text}
use Rattle.dnw_name_form.proofs.label.push_label_text.Given as goal

abbrev pub invariant-loop-byte : goal.invariant-loop-byte
invariant-loop-byte g l = record {
  text : l.out.bytes ≡ l.initial.out.bytes ++ flat_map (byte_text false) (take l.byte-index l.rest);
  room : array_string_len l.out ≤ array_string_len l.initial.out + 4 * l.byte-index;
  initial_room : array_string_len l.initial.out ≤ array_string_len l.fn.out + 4;
}
