use Rattle.std.proofs.lemmas.Option.{IfSome_then}
use Rattle.dnw_name_text.proofs.LabelTexts.{Begins_escape}
use Rattle.dnw_name_text.proofs.ascii.escape.Goals as goal

pub returns : goal.returns
returns c = IfSome_then _ (rw c.as_bytes.ensures.value at c.octal_escape.ensures) (λ char e. Begins_escape c.args.text.now char e.0 c.utf8.text e.1)
