use Rattle.std.proofs.Common.{List, ℕ, sym, ap, ◌∙◌, subst}
use Rattle.dnw_zone_data.specs.Words.{word}
use Rattle.dnw_zone_record.specs.RecordLines.{IsTtlWord}
use Rattle.dnw_zone_record.proofs.record_line.next_ttl.Goals as goal

pub returns-in_default-ttl_of-clause-is : goal.returns-in_default-ttl_of-clause-is
returns-in_default-ttl_of-clause-is c n is =
    c.in_default-ttl_of.ensures n (subst (λ (w : List ℕ). IsTtlWord w n) (sym (c.split_word.ensures.word ∙ ap word c.after_spaces-start.ensures.rest)) is)
