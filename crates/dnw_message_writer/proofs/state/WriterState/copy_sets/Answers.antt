use Rattle.std.proofs.Common.{◌≡◌, ◌≢◌, ◌∷◌, ◌∙◌, ap, rules, None, subst, sym}
use Rattle.dnw_message_writer.specs.Copying.{FailsSets, StopsInSet, sets_of}
use Rattle.dnw_message_writer.specs.Inside.CopiedSets.{first_of}
use Rattle.dnw_message_writer.specs.declared.copying.CopyError.TheVariants as errors
use Rattle.dnw_message_writer.specs.declared.section.WriteError.TheVariants.{NoRoom}
use Rattle.dnw_message_writer.proofs.Passing.{sets_end, sets_fail, sets_on, sets_stop}
use Rattle.dnw_message_writer.proofs.state.WriterState.copy_sets.Goals as goal

pub sets-preserved : goal.sets-preserved
sets-preserved c =
    let s = c.args.section in
    sets_on s (sets_of s c.args.records) c.args.self.now c.args.message.now (rw c.in-Some.is at c.sets.invariant)
    (first_of c.in-Ok.next (sets_of s c.copy_set.new.records)) c.copy_set.new.self c.copy_set.new.message c.in-Ok.ensures.ok

pub returns-in-Err-Write-NoRoom-clause-ok : goal.returns-in-Err-Write-NoRoom-clause-ok
returns-in-Err-Write-NoRoom-clause-ok c =
    let s = c.args.section in
    let room : c.in-Err-Write-NoRoom.field-0-0 ≡ NoRoom = search rules in
    let is : c.in-Err-Write-NoRoom.field-0 ≡ errors.Write NoRoom = c.in-Err-Write-NoRoom.field-0-is ∙ ap errors.Write room in
    let stops = subst (StopsInSet s (c.in-Some.record ∷ sets_of s c.sets.records) c.sets.self c.sets.message) is c.in-Err-Write-NoRoom.ensures.err in
    let same = c.in-Err-Write-NoRoom.ensures.same in
    sets_stop s (sets_of s c.args.records) c.args.self.now c.args.message.now (rw c.in-Some.is at c.sets.invariant) c.copy_set.new.self c.copy_set.new.message
    same.0 same.1 stops

pub returns-in-Err-clause-err : goal.returns-in-Err-clause-err
returns-in-Err-clause-err c =
    let s = c.args.section in
    let other : c.in-Err.error ≢ errors.Write NoRoom = search rules in
    let fails = sets_fail s (sets_of s c.args.records) c.args.self.now c.args.message.now (rw c.in-Some.is at c.sets.invariant) c.in-Err.error other c.in-Err.ensures.err in
    subst (λ e. FailsSets s e (sets_of s c.args.records) c.args.self.now c.args.message.now) (sym c.in-Err.error-is) fails

pub returns-clause-ok : goal.returns-clause-ok
returns-clause-ok c =
    let s = c.args.section in
    let none : c.sets.first ≡ None = search rules in
    sets_end s (sets_of s c.args.records) c.args.self.now c.args.message.now c.sets.invariant (ap (λ f. first_of f (sets_of s c.sets.records)) none)
