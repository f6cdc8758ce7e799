use Rattle.std.proofs.Common.{◌≡◌, ◌∷◌, ◌∙◌, ap, rules, sym}
use Rattle.dnw_message_writer.specs.Copying.{copied_form}
use Rattle.dnw_message_writer.specs.Padded.{signatures_in}
use Rattle.dnw_message_writer.specs.States.{for_last}
use Rattle.dnw_message_writer.specs.declared.section.Section.TheVariants.{Additionals}
use Rattle.dnw_message_writer.proofs.Passing.{passing_on, signature_kept}
use Rattle.dnw_message_writer.proofs.state.WriterState.copy_signatures.Goals as goal

pub records-preserved-in_default-added : goal.records-preserved-in_default-added
records-preserved-in_default-added c =
    let x = c.in-Some.record in
    let is : c.records.records ≡ x ∷ c.next.new.self = search rules in
    let kept = ap signatures_in is ∙ signature_kept x c.next.new.self (sym c.signs_message.ensures ∙ c.if-signs_message.true) in
    passing_on Additionals copied_form (signatures_in c.args.source.now.additionals) (for_last c.args.self.now.reserved c.args.self.now) c.args.message.now c.records.invariant x
    (signatures_in c.next.new.self) c.record_of-added.new.self c.record_of-added.new.message kept c.record_of-added.auto.message c.in_default-added.ensures.ok
