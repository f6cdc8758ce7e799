use Rattle.std.specs.Prelude.{encode_utf8, flat_map}
use Rattle.std.specs.Fmt.{HasWritten, IsPlainFormatter}
use Rattle.dnw_message_read.specs.Texts.{shown_char}
use Rattle.dnw_message_read.proofs.text.write_chars.Given as goal

abbrev pub invariant-loop-c : goal.invariant-loop-c
invariant-loop-c g l =
    IsPlainFormatter l.fn.f → HasWritten g.W.Write.write_str_gives l.fn.f (flat_map (λ c. encode_utf8 (shown_char c)) l.yielded) l.f
