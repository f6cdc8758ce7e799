use Rattle.std.proofs.Common.{◌≡◌, length, rules}
use Rattle.dnw_message_writer.specs.Hints.{slot_of}
use Rattle.dnw_message_writer.proofs.Laying.{record_before, record_laid, record_past}
use Rattle.dnw_message_writer.proofs.items.put_record.Goals as goal

pub returns-in_err-end-2-clause-none : goal.returns-in_err-end-2-clause-none
returns-in_err-end-2-clause-none c =
    let (owned, fits) = c.in_ok-end.ensures.some in
    let (is, start_is, room) = c.in_ok-start.ensures.some in
    let ten : length c.args.fields.now ≡ 10 = search rules in
    let past = record_past slot_of c.args.limit c.args.message.now c.args.at c.args.near c.args.hints.now c.args.owner c.put_owner.new.hints c.requires.limit
    c.requires.at c.put_owner.new.message c.in_ok-end.end owned fits c.put_octets.new.message c.args.fields.now c.in_ok-start.start c.args.pieces.now is start_is
    ten c.in_err-end-2.ensures.none in
    rw c.from_residual-in_err-end-2.ensures past

pub returns-in_err-end-2-clause-before : goal.returns-in_err-end-2-clause-before
returns-in_err-end-2-clause-before c =
    let (owned, fits) = c.in_ok-end.ensures.some in
    let (is, start_is, room) = c.in_ok-start.ensures.some in
    let ten : length c.args.fields.now ≡ 10 = search rules in
    record_before slot_of c.args.limit c.args.message.now c.args.at c.args.near c.args.hints.now c.args.owner c.put_owner.new.hints c.requires.limit
    c.requires.at c.put_owner.new.message c.in_ok-end.end owned fits c.put_octets.new.message c.args.fields.now c.in_ok-start.start c.args.pieces.now is start_is
    ten c.put_pieces.new.message c.in_err-end-2.ensures.before

pub returns-clause-some : goal.returns-clause-some
returns-clause-some c =
    let (owned, fits) = c.in_ok-end.ensures.some in
    let (is, start_is, room) = c.in_ok-start.ensures.some in
    let (are, inside) = c.in_ok-end-2.ensures.some in
    let ten : length c.args.fields.now ≡ 10 = search rules in (
      record_laid slot_of c.args.limit c.args.message.now c.args.at c.args.near c.args.hints.now c.args.owner c.put_owner.new.hints c.requires.limit
          c.requires.at c.put_owner.new.message c.in_ok-end.end owned fits c.put_octets.new.message c.args.fields.now c.in_ok-start.start c.args.pieces.now is start_is
          ten c.put_pieces.new.hints c.put_pieces.new.message c.put_at.new.message c.to_be_bytes.result c.in_ok-end-2.end are c.to_be_bytes.ensures c.put_at.ensures,
      inside,
    )
