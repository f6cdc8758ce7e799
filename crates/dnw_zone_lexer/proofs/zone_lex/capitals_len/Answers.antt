use Rattle.dnw_zone_lexer.proofs.Cuts.{scanned_start}
use Rattle.dnw_zone_lexer.proofs.zone_lex.capitals_len.Goals as goal

pub loop-c-init : goal.loop-c-init
loop-c-init c = scanned_start _ _ c.utf8.text
