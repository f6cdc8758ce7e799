use Rattle.std.proofs.Common.{None, Some}
use Rattle.dnw_record.proofs.FewPointers.{all_lack}
use Rattle.dnw_message_read.proofs.FewRecords.{all_three, lack_second}
use Rattle.dnw_message_read.proofs.message.MessageRef.data_follow_few.Goals as goal

pub returns-in-None-clause-many : goal.returns-in-None-clause-many
returns-in-None-clause-many c = λ _.
    let m = c.args.self.now in
    all_lack m.answers _ c.args.max_pointers (rw c.answers.ensures at c.in-None.ensures)

pub returns-in-None-left_of-clause-many : goal.returns-in-None-left_of-clause-many
returns-in-None-left_of-clause-many c = λ _.
    let m = c.args.self.now in
    lack_second m.answers m.authorities m.additionals c.args.max_pointers c.in-Some.left (rw c.answers.ensures at c.in-Some.ensures)
    (rw c.authorities.ensures at c.in-None-left_of.ensures)

pub returns-in-Some-left_of-2-clause-few : goal.returns-in-Some-left_of-2-clause-few
returns-in-Some-left_of-2-clause-few c = λ _.
    let m = c.args.self.now in
    let left = c.in-Some-left_of-2.field-0 in (
      left,
      all_three m.answers m.authorities m.additionals c.args.max_pointers c.in-Some.left c.in-Some-left_of.left (Some left)
          (rw c.answers.ensures at c.in-Some.ensures) (rw c.authorities.ensures at c.in-Some-left_of.ensures)
          (rw c.additionals.ensures at c.in-Some-left_of-2.ensures),
    )

pub returns-in-None-left_of-2-clause-many : goal.returns-in-None-left_of-2-clause-many
returns-in-None-left_of-2-clause-many c = λ _.
    let m = c.args.self.now in
    all_three m.answers m.authorities m.additionals c.args.max_pointers c.in-Some.left c.in-Some-left_of.left None
    (rw c.answers.ensures at c.in-Some.ensures) (rw c.authorities.ensures at c.in-Some-left_of.ensures)
    (rw c.additionals.ensures at c.in-None-left_of-2.ensures)
