use Rattle.dns_names_wire.proofs.AcceptedTexts.{accepted_labels, accepted_read_back}
use Rattle.dns_names_wire.proofs.text_laws.accepted_texts_read_back.Goals as goal

pub returns : goal.returns
returns c = record { labels = accepted_labels; back = accepted_read_back }
