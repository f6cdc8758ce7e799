use Rattle.std.proofs.Common.{◌+◌, ◌≤◌}
use Rattle.dnw_data.specs.Values.{seen}
use Rattle.dnw_c_messages.specs.FieldCalls.{EndsAt, head_of}
use Rattle.dnw_c_messages.proofs.Taken.{skipped_to, taken_at}
use Rattle.dnw_c_messages.proofs.fields.read_end.Goals as goal
use Rattle.dnw_c_messages.proofs.fields.read_end.Goals.{After-index}

taken : (c : After-index) → (c.args.offset + head_of c.args.kind ≤ c.index.result)
    × EndsAt c.args.kind c.args.message.now c.args.offset c.index.result
taken c =
    let there = skipped_to c.new-reader.result c.skip.new.self c.args.message.now c.args.offset c.skip.result c.new-reader.ensures c.requires c.skip.ensures.takes in
    let value = seen c.in_ok-read.field-0 in
    let (later, at) = taken_at c.args.kind c.args.message.now c.args.offset c.skip.new.self c.read.new.reader value there c.in_ok-read.ensures.ok in
    let end = c.index.ensures.index in
    (rw end later, (value, rw end at))

pub returns-clause-ok : goal.returns-clause-ok
returns-clause-ok c = (taken c).1

pub returns-clause-head : goal.returns-clause-head
returns-clause-head c = (taken c).0
