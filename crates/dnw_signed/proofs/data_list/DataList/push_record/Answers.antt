use Rattle.std.proofs.Common.{refl, ◌∙◌}
use Rattle.dnw_signed.proofs.Listing.{ended}
use Rattle.dnw_signed.proofs.data_list.DataList.push_record.Goals as goal

pub returns-then-branch-clause-ok : goal.returns-then-branch-clause-ok
returns-then-branch-clause-ok c =
    let (more, takes, canonical, grown) = c.in_ok-put_limited.ensures.ok in
    let taken = ended c.in_ok-end.field-0 c.args.self.now c.end.new.self more c.len-before.result c.requires (c.len-before.ensures ∙ c.args.self.now.octets.ok.0)
    (rw c.in_ok-end.ensures.octets grown) (rw c.in_ok-end.ensures.octets c.in_ok-end.ensures.size) in
    (more, takes, canonical, rw c.if-branch.true at taken)

pub returns-else-branch-clause-err : goal.returns-else-branch-clause-err
returns-else-branch-clause-err c =
    let (more, takes, canonical, grown) = c.in_ok-put_limited.ensures.ok in
    let long = ended c.in_ok-end.field-0 c.args.self.now c.end.new.self more c.len-before.result c.requires (c.len-before.ensures ∙ c.args.self.now.octets.ok.0)
    (rw c.in_ok-end.ensures.octets grown) (rw c.in_ok-end.ensures.octets c.in_ok-end.ensures.size) in
    (refl, (c.put_limited.new.left, takes, more, canonical, rw c.if-branch.false at long))
