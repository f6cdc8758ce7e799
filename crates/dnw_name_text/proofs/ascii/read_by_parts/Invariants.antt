use Rattle.std.proofs.Common.{◌≡◌, ◌+◌, ◌≤◌, [], length}
use Rattle.std.specs.Str.{chars}
use denote.Shadow.{shadow}
use denote.Text.{Utf8}
use Rattle.dnw_name_text.specs.AsciiText.{Outside}
use Rattle.dnw_name_text.specs.Inside.TextReader.{name_from_rest, name_from, reader_len}
use Rattle.dnw_name_text.proofs.ascii.read_by_parts.Given as goal

-- what is left, after what is read, gives what all gives
abbrev pub invariant-loop-rest : goal.invariant-loop-rest
invariant-loop-rest l = record {
  name : name_from l.reader (chars l.rest) ≡ name_from_rest [] [] Outside (chars l.text);
  len : reader_len l.reader + length l.rest ≤ length l.text;
  utf8 : shadow (Utf8 l.rest);
}

abbrev pub decreases-loop-rest : goal.decreases-loop-rest
decreases-loop-rest l = length l.rest
