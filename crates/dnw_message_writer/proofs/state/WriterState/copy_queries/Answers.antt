use Rattle.std.proofs.Common.{◌≡◌, ◌∷◌, ◌∙◌, ap, length, rules}
use Rattle.dnw_base.specs.DnsClasses.{class_code}
use Rattle.dnw_base.specs.RecordTypes.{type_code}
use Rattle.dnw_message_writer.specs.Copying.{FailsToAddQuery, query_form}
use Rattle.dnw_message_writer.specs.declared.copying.CopyError.TheVariants.{Write}
use Rattle.dnw_message_writer.specs.declared.section.Section.TheVariants.{Queries}
use Rattle.dnw_message_writer.proofs.Passing.{passing_on, passing_stops, query_added, query_past}
use Rattle.dnw_message_writer.proofs.state.WriterState.copy_queries.Goals as goal

pub queries-preserved : goal.queries-preserved
queries-preserved c =
    let x = c.in-Some.query in
    let is : c.queries.queries ≡ x ∷ c.next.new.self = search rules in
    let name : c.name.result.now ≡ x.name = c.name.ensures in
    let code : c.from-query_type.result ≡ type_code x.query_type = c.from-query_type.ensures ∙ ap type_code c.query_type.ensures in
    let class : c.from-class.result ≡ class_code x.query_class = c.from-class.ensures ∙ ap class_code c.query_class.ensures in
    let size : length c.add_query-added.new.message ≡ length c.queries.message = c.add_query-added.auto.message in
    let added = query_added x c.name.result.now c.from-query_type.result c.from-class.result name code class c.queries.self c.add_query-added.new.self
    c.queries.message c.add_query-added.new.message c.add_query-added.ensures.fit c.in_default-added.ensures.ok in
    passing_on Queries query_form c.args.queries c.args.self.now c.args.message.now c.queries.invariant x c.next.new.self c.add_query-added.new.self
    c.add_query-added.new.message is size added

pub returns-in-Err-clause-err : goal.returns-in-Err-clause-err
returns-in-Err-clause-err c =
    let x = c.in-Some.query in
    let is : c.queries.queries ≡ x ∷ c.next.new.self = search rules in
    let name : c.name.result.now ≡ x.name = c.name.ensures in
    let code : c.from-query_type.result ≡ type_code x.query_type = c.from-query_type.ensures ∙ ap type_code c.query_type.ensures in
    let class : c.from-class.result ≡ class_code x.query_class = c.from-class.ensures ∙ ap class_code c.query_class.ensures in
    passing_stops Queries query_form c.args.queries c.args.self.now c.args.message.now c.queries.invariant FailsToAddQuery x c.next.new.self
    (Write c.in-Err.error) is
    (query_past x c.name.result.now c.from-query_type.result c.from-class.result name code class c.queries.self c.queries.message c.in-Err.error
    c.in-Err.ensures.err)
