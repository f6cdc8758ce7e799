use Rattle.std.proofs.Common.{◌≡◌, inr, ap, ◌∙◌}
use Rattle.dnw_base.specs.DnsClasses.{class_code}
use Rattle.dnw_base.specs.RecordTypes.{type_code}
use Rattle.dnw_message_writer.proofs.Opts.{if_err_as, on_ok_as}
use Rattle.dnw_message_writer.proofs.state.WriterState.begin_with.Goals as goal

pub returns-clause-ok : goal.returns-clause-ok
returns-clause-ok c =
    let labels : c.wire_labels.result ≡ c.in-Some.query.name = c.wire_labels.ensures ∙ c.name.ensures in
    let code : c.from-query_type.result ≡ type_code c.in-Some.query.query_type = c.from-query_type.ensures ∙ ap type_code c.query_type.ensures in
    let class : c.from-class.result ≡ class_code c.in-Some.query.query_class = c.from-class.ensures ∙ ap class_code c.query_class.ensures in
    on_ok_as c.question.result (λ added. rw c.in-Some.is (c.begin.new.self, c.begin.new.message, c.in_ok-begin.ensures.ok, added))
    (rw (labels, code, class) at c.question.ensures.ok)

pub returns-clause-err : goal.returns-clause-err
returns-clause-err c =
    let labels : c.wire_labels.result ≡ c.in-Some.query.name = c.wire_labels.ensures ∙ c.name.ensures in
    if_err_as c.question.result _ _
    (λ e fails. inr (c.in-Some.query, c.in-Some.is, c.begin.new.self, c.begin.new.message, c.in_ok-begin.ensures.ok, fails))
    (rw labels at c.question.ensures.err)
