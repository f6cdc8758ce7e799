use Rattle.std.proofs.Common.{arith, ap, length, encode_utf8}
use Rattle.std.proofs.lemmas.List.{length-append}
use Rattle.std.proofs.lemmas.Str.{chars_past_char, length-encode, len_utf8_bounds}
use Rattle.dnw_name_text.proofs.ascii_fault.split_first_char.Goals as goal

pub returns : goal.returns
returns c =
    let steps = rw c.chars-chars.ensures.rest at c.in_ok-first.ensures.steps in
    let first = c.in_ok-first.first in
    let after = c.next.new.self.rest.now in
    rw c.as_str.ensures (
      chars_past_char c.args.text.now after first c.utf8.text steps.0,
      omega (arith, ap length steps.0, length-append (encode_utf8 first) after, length-encode first, (len_utf8_bounds first).0),
      rw c.as_str.ensures at c.as_str.utf8,
    )
