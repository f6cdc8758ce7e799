-- The record that is kept there is read.
use Rattle.std.proofs.Common.{◌≡◌, ◌∙◌, rules, arith}
use Rattle.std.specs.Result.{IsOkAnd}
use Rattle.ans_store.proofs.Reading.{IsAtRecord, at_record, ok_holds}
use Rattle.ans_store.proofs.records.Records.get.Goals as goal
use Rattle.ans_store.proofs.records.Records.get.Goals.{After-read_next}

there : (c : After-read_next) → IsAtRecord c.reader_at-reader.result c.args.self.now c.args.number
there c =
    at_record c.self.inside.octets.now c.self.inside.offsets.items c.args.number c.index.result.now c.reader_at-reader.result c.args.self.now c.self.invariant c.self.view_is
    c.requires c.index.ensures c.reader_at-reader.ensures

pub unwrap-requires : goal.unwrap-requires
unwrap-requires c =
    let at = there (goal.at.unwrap-requires c).After-read_next in
    let ok : IsOkAnd c.read_next.result (λ x. x ≡ at.found) = (c.read_next.ensures.accepts at.found at.after at.takes).0 in
    search rules

pub returns : goal.returns
returns c =
    let at = there (goal.at.returns c).After-read_next in
    let ok : IsOkAnd c.read_next.result (λ x. x ≡ at.found) = (c.read_next.ensures.accepts at.found at.after at.takes).0 in
    ok_holds (λ x. x ≡ at.found) c.read_next.result c.unwrap.result c.unwrap.ensures ok ∙ at.is c.unwrap.result
