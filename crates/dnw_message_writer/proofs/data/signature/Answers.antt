use Rattle.std.proofs.Common.{refl}
use Rattle.dnw_message_writer.proofs.Splitting.{signature_alone}
use Rattle.dnw_message_writer.proofs.data.signature.Goals as goal

pub returns-then-has_signer : goal.returns-then-has_signer
returns-then-has_signer c = λ class.
    signature_alone class c.args.octets.now _ (c.has_signer.ensures c.if-has_signer.true) refl (λ at. refl)
