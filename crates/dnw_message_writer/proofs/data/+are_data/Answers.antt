use Rattle.std.proofs.Common.{length}
use Rattle.std.proofs.lemmas.List.{take_rest}
use Rattle.dnw_message_writer.proofs.Splitting.{data_first, data_rest}
use Rattle.dnw_message_writer.proofs.data.+are_data.Goals as goal

pub returns : goal.returns
returns t c =
    let split = c.in-Some.ensures.cases.0 in
    let octets = c.args.octets.now in
    let own = c.in-Some-first_field.own.now in
    let first = c.in-Some-first_field.ensures.some in
    let more = rw (take_rest octets (length own)) at c.are_data.ensures in (
      λ found. rw split (data_first c.in-Some.kind.now c.in-Some.others.now octets own first (more.0 found)),
      λ h. more.1 (data_rest c.in-Some.kind.now c.in-Some.others.now octets own first (rw split at h)),
    )
