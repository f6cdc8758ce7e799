use Rattle.std.proofs.Common.{◌-◌, length}
use Rattle.dnw_zone_lexer.proofs.Cuts.{Scanned}
use Rattle.dnw_zone_lexer.specs.Tokens.{ends_word}
use Rattle.dnw_zone_lexer.proofs.zone_lex.word_len.Given as goal

abbrev pub invariant-loop-len : goal.invariant-loop-len
invariant-loop-len l = Scanned ends_word l.text l.len

abbrev pub decreases-loop-len : goal.decreases-loop-len
decreases-loop-len l = length l.text - l.len
