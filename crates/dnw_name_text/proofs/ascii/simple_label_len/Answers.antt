use Rattle.std.proofs.Common.{rules}
use Rattle.dnw_name_text.proofs.SimpleLabels.{simple_front}
use Rattle.dnw_name_text.proofs.ascii.simple_label_len.Goals as goal

pub returns-clause-label : goal.returns-clause-label
returns-clause-label c = λ _.
    simple_front c.args.text.now c.simple_len-len.result c.simple_len-len.ensures.run.few (search rules) (search rules) (search rules) c.simple_len-len.ensures.run.simple
