use Rattle.dns_names_wire.proofs.DottedTexts.{bytes_and_texts}
use Rattle.dns_names_wire.proofs.text_laws.bytes_and_texts_agree.Goals as goal

pub returns : goal.returns
returns c = bytes_and_texts
