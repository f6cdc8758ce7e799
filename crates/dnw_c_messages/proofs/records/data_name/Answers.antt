use Rattle.std.proofs.Common.{inl}
use Rattle.dnw_c_messages.proofs.RecordEnds.{ends_after, ends_there}
use Rattle.dnw_c_messages.proofs.records.data_name.Goals as goal

pub overflow_sub-end : goal.overflow_sub-end
overflow_sub-end c =
    let (k, at) = c.in_ok-name.ensures.ok in
    ends_after at

pub returns : goal.returns
returns c =
    let (k, at) = c.in_ok-name.ensures.ok in
    inl (c.in_ok-name.name, k, ends_there at c.if-end-start.false, c.put_name.ensures)
