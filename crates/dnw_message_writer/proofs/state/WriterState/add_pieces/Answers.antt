use Rattle.std.proofs.Common.{◌≡◌, ◌∙◌, ap}
use Rattle.dnw_base.specs.DnsClasses.{class_code}
use Rattle.dnw_base.specs.RecordTypes.{type_code}
use Rattle.dnw_message_writer.proofs.Opts.{if_err_as, on_ok_as}
use Rattle.dnw_message_writer.proofs.Passing.{pieces_added, pieces_past}
use Rattle.dnw_message_writer.proofs.state.WriterState.add_pieces.Goals as goal

pub returns-clause-ok : goal.returns-clause-ok
returns-clause-ok c =
    let x = c.args.item.now in
    let code : c.from-record_type.result ≡ type_code x.record_type = c.from-record_type.ensures ∙ ap type_code c.record_type.ensures in
    let class : c.from-class.result ≡ class_code x.class = c.from-class.ensures ∙ ap class_code c.class.ensures in
    on_ok_as c.add_owned.result
    (pieces_added c.args.section x c.args.pieces.now c.requires c.owner.result.now c.from-record_type.result c.from-class.result c.ttl-ttl.result c.owner.ensures code
    class c.ttl-ttl.ensures c.args.self.now c.add_owned.new.self c.args.message.now c.add_owned.new.message c.add_owned.ensures.fit) c.add_owned.ensures.ok

pub returns-clause-err : goal.returns-clause-err
returns-clause-err c =
    let x = c.args.item.now in
    let code : c.from-record_type.result ≡ type_code x.record_type = c.from-record_type.ensures ∙ ap type_code c.record_type.ensures in
    let class : c.from-class.result ≡ class_code x.class = c.from-class.ensures ∙ ap class_code c.class.ensures in
    if_err_as c.add_owned.result _ _
    (pieces_past c.args.section x c.args.pieces.now c.requires c.owner.result.now c.from-record_type.result c.from-class.result c.ttl-ttl.result c.owner.ensures code
    class c.ttl-ttl.ensures c.args.self.now c.args.message.now) c.add_owned.ensures.err
