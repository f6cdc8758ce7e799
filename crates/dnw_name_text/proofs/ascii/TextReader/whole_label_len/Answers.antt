use Rattle.dnw_name_text.proofs.SimpleLabels.{BeginsWithLabel_dotted}
use Rattle.dnw_name_text.proofs.ascii.TextReader.whole_label_len.Goals as goal

pub returns-in-Outside-clause-label : goal.returns-in-Outside-clause-label
returns-in-Outside-clause-label c = λ some.
    let dotted = rw c.as_bytes.ensures.value at (c.dotted_len.ensures some) in
    BeginsWithLabel_dotted _ _ c.utf8.text dotted
