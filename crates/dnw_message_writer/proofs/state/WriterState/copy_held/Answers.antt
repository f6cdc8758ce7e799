use Rattle.std.proofs.Common.{◌≡◌, ◌∷◌, ◌∙◌, ap, rules, sym}
use Rattle.dnw_message_writer.specs.Copying.{copied_form, held_in}
use Rattle.dnw_message_writer.specs.States.{for_last}
use Rattle.dnw_message_writer.specs.declared.section.Section.TheVariants.{Additionals}
use Rattle.dnw_message_writer.proofs.Passing.{held_kept, passing_on}
use Rattle.dnw_message_writer.proofs.state.WriterState.copy_held.Goals as goal

pub records-preserved-in_default-added : goal.records-preserved-in_default-added
records-preserved-in_default-added c =
    let x = c.in-Some.record in
    let is : c.records.records ≡ x ∷ c.next.new.self = search rules in
    let kept = ap held_in is ∙ held_kept x c.next.new.self (sym c.is_held.ensures ∙ c.if-is_held.true) in
    passing_on Additionals copied_form (held_in c.args.source.now.additionals) (for_last c.args.self.now.reserved c.args.self.now) c.args.message.now c.records.invariant x
    (held_in c.next.new.self) c.record_of-added.new.self c.record_of-added.new.message kept c.record_of-added.auto.message c.in_default-added.ensures.ok
