use Rattle.std.proofs.Common.{sym, ◌∙◌}
use Rattle.dnw_zone_lexer.proofs.Cuts.{scanned_start, scanned_step}
use Rattle.dnw_zone_lexer.proofs.zone_lex.word_len.Goals as goal

pub loop-len-init : goal.loop-len-init
loop-len-init c = scanned_start _ _ c.utf8.text

pub loop-len-preserved : goal.loop-len-preserved
loop-len-preserved c =
    scanned_step _ _ _ _ _ _ c.utf8.text c.loop-len.invariant (rw c.range_from.ensures.value at c.in-Some.ensures.0)
    (sym c.ends_word.ensures ∙ c.if-ends_word.false) c.len_utf8-len.ensures.value
