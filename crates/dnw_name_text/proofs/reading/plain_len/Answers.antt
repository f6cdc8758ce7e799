use Rattle.dnw_name_text.proofs.PlainRuns.{own_begins}
use Rattle.dnw_name_text.proofs.reading.plain_len.Goals as goal

pub returns-clause-plain : goal.returns-clause-plain
returns-clause-plain c = own_begins _ _ c.own_len.ensures.few c.own_len.ensures.short c.own_len.ensures.own
