use Rattle.std.proofs.Common.{List, ℕ, length, replicate, subst, ap, ◌∙◌}
use Rattle.std.proofs.lemmas.List.{length-replicate}
use Rattle.std.proofs.lemmas.Result.{err_from_is_err_and}
use Rattle.dns_names_wire.specs.Words.{AddsItem, BeginsMessage, FailsToAdd, Queries, question_form, question_past, slot_of, type_code}
use Rattle.dnw_commands.specs.Asking.{BeginsAsking, FailsQuestion, HasQuestion, asking, query_room}
use Rattle.dnw_commands.proofs.queries.written.write_question.Goals as goal

pub returns-in_err-question-clause-err : goal.returns-in_err-question-clause-err
unfolding FailsQuestion
returns-in_err-question-clause-err c =
    let asked = c.args.asked.now in
    let error = c.in_err-question.field-0.0 in
    let size = ap length c.requires ∙ length-replicate (query_room asked) 0 in
    let begins : BeginsAsking asked c.begin.new.self c.begin.new.message =
    subst (λ (k : ℕ). BeginsMessage asked.id asking k (replicate (query_room asked) 0) c.begin.new.self c.begin.new.message) size
    (subst (λ (xs : List ℕ). BeginsMessage asked.id asking (length c.args.message.now) xs c.begin.new.self c.begin.new.message) c.requires c.in_ok-begin.ensures.ok) in
    let past = subst (λ (n : List (List ℕ)). FailsToAdd Queries (question_past slot_of n) c.begin.new.self c.begin.new.message error) c.wire_labels.ensures.labels c.in_err-question.ensures.err in
    let exit = c.from_residual-in_err-question in
    let (failure, is, same) = err_from_is_err_and exit.result exit.ensures.1 in
    rw (is, same) (c.begin.new.self, c.begin.new.message, begins, past)

pub returns-clause-ok : goal.returns-clause-ok
unfolding HasQuestion
returns-clause-ok c =
    let asked = c.args.asked.now in
    let size = ap length c.requires ∙ length-replicate (query_room asked) 0 in
    let begins : BeginsAsking asked c.begin.new.self c.begin.new.message =
    subst (λ (k : ℕ). BeginsMessage asked.id asking k (replicate (query_room asked) 0) c.begin.new.self c.begin.new.message) size
    (subst (λ (xs : List ℕ). BeginsMessage asked.id asking (length c.args.message.now) xs c.begin.new.self c.begin.new.message) c.requires c.in_ok-begin.ensures.ok) in
    let named = subst (λ (n : List (List ℕ)). AddsItem Queries (question_form slot_of n c.code-code.result c.code-class.result) c.begin.new.self c.begin.new.message c.question.new.self c.question.new.message) c.wire_labels.ensures.labels c.in_ok-question.ensures.ok in
    let typed = subst (λ (code : ℕ). AddsItem Queries (question_form slot_of asked.name.labels code c.code-class.result) c.begin.new.self c.begin.new.message c.question.new.self c.question.new.message) c.code-code.ensures named in
    let asks = subst (λ (code : ℕ). AddsItem Queries (question_form slot_of asked.name.labels (type_code asked.record_type) code) c.begin.new.self c.begin.new.message c.question.new.self c.question.new.message) c.code-class.ensures typed in
    (c.begin.new.self, c.begin.new.message, begins, asks)
