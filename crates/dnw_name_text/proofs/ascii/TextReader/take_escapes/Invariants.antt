use Rattle.std.proofs.Common.{◌≡◌, ◌+◌, ◌≤◌, length}
use Rattle.std.specs.Str.{chars}
use denote.Shadow.{shadow}
use denote.Text.{Utf8}
use Rattle.dnw_name_text.specs.Inside.TextReader.{name_from, reader_len}
use Rattle.dnw_name_text.specs.declared.ascii.State.TheVariants.{Outside as HeldOutside}
use Rattle.dnw_name_text.proofs.ascii.TextReader.take_escapes.Given as goal

-- what is left, after what is read, gives what all gives
abbrev pub invariant-escapes : goal.invariant-escapes
invariant-escapes l = record {
  name : name_from l.self (chars l.rest) ≡ name_from l.fn.self (chars l.text);
  outside : l.self.state ≡ HeldOutside;
  len : reader_len l.self + length l.rest ≤ reader_len l.fn.self + length l.text;
  shorter : length l.rest ≤ length l.text;
  utf8 : shadow (Utf8 l.rest);
}

abbrev pub decreases-escapes : goal.decreases-escapes
decreases-escapes l = length l.rest
