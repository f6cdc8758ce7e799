-- The letters of a control entry are bytes.
use Rattle.std.proofs.Common.{sym, ap, ◌∙◌}
use Rattle.std.proofs.Math.Nat.{sub-zero}
use Rattle.std.specs.Str.{chars}
use Rattle.dnw_zone_lexer.proofs.Cuts.{capitals_are_bytes}
use Rattle.dnw_zone_lexer.proofs.zone_lex.control_entry.Goals as goal

pub returns : goal.returns
returns c =
    let word = rw sub-zero at c.range.ensures.value ∙ capitals_are_bytes _ _ c.utf8.text c.capitals_len-len.ensures in
    rw (sym word, sym (ap chars c.range_from.ensures.value ∙ c.capitals_len-len.ensures.back)) c.control_word.ensures
