use Rattle.std.proofs.Common.{◌≡◌, ◌++◌, map, drop}
use Rattle.dnw_zone_lexer.specs.Lexing.{characters}
use Rattle.dnw_c_zone.specs.TokenCalls.{list_bytes}
use Rattle.dnw_c_zone.proofs.tokens.bytes_of.Given as goal

-- what is left, from here, gives what all gives from the start
abbrev pub invariant-loop-word : goal.invariant-loop-word
invariant-loop-word l = l.bytes.items ++ list_bytes (map characters (drop l.word-index l.words.items)) ≡ list_bytes (map characters l.words.items)
