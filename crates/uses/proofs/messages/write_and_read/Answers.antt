-- What was written is read, and is this response.
use Rattle.std.proofs.Common.{◌≤◌, ℕ, List, [], ◌∷◌, ap, refl, subst, rules, inl, inr}
use Rattle.dns_names_wire.specs.Words.{AddsItem, Answers, FailsMessage, FailsToAdd, MessageAt, MessageValue, Queries}
use Rattle.dns_names_wire.specs.Words.{max_pointers, question_form, question_past, record_past, slot_of}
use Rattle.std.proofs.lemmas.Result.{err_from_is_err_and}
use Rattle.dns_names_wire.specs.declared.message.Header.{Header}
use Rattle.dns_names_wire.specs.declared.message_writer.Piece.TheVariants.{Octets}
use Rattle.uses.specs.Messages.{FailsResponse, response}
use Rattle.uses.proofs.ReadMessages.{is_ok, ok_holds, response_is_held}
use Rattle.uses.proofs.messages.write_and_read.Goals as goal

pub unwrap-read-requires : goal.unwrap-read-requires
unwrap-read-requires c =
    let law = c.messages_hold_their_items.ensures in
    let labels = c.args.name.now.labels in
    let made = response_is_held law.begun law.question law.record c.args.id labels c.wire_labels.result c.wire_labels-2.result c.args.address c.args.message.now
    c.begin.new.message c.question.new.message c.record.new.message c.begin.new.self c.question.new.self c.record.new.self (search rules) (search rules)
    c.wire_labels.ensures.labels c.wire_labels-2.ensures.labels c.wire_labels.ensures.names
    c.in_ok-begin.ensures.ok c.in_ok-question.ensures.ok c.in_ok-record.ensures.ok in
    is_ok (FailsMessage c.record.new.message max_pointers)
    (λ error h. c.held_items_are_read.ensures.never_fails c.args.id 33792 (response labels c.args.address)
    c.record.new.self c.record.new.message c.record.new.message max_pointers error made refl (search rules) h)
    c.read.result c.read.ensures.err

pub returns-clause-ok : goal.returns-clause-ok
returns-clause-ok c =
    let law = c.messages_hold_their_items.ensures in
    let labels = c.args.name.now.labels in
    let made = response_is_held law.begun law.question law.record c.args.id labels c.wire_labels.result c.wire_labels-2.result c.args.address c.args.message.now
    c.begin.new.message c.question.new.message c.record.new.message c.begin.new.self c.question.new.self c.record.new.self (search rules) (search rules)
    c.wire_labels.ensures.labels c.wire_labels-2.ensures.labels c.wire_labels.ensures.names
    c.in_ok-begin.ensures.ok c.in_ok-question.ensures.ok c.in_ok-record.ensures.ok in
    let (k, at, few) = ok_holds (λ (m : MessageValue). (k : ℕ) × MessageAt c.record.new.message m k × (k ≤ max_pointers))
    c.read.result c.unwrap-read.result c.unwrap-read.ensures c.read.ensures.ok in
    let (end, has) = c.held_items_are_read.ensures.same c.args.id 33792 (response labels c.args.address)
    c.record.new.self c.record.new.message c.record.new.message c.unwrap-read.result k made refl at in
    (c.unwrap-read.result, k, at, has, ap (λ (h : Header). h.counts) c.header.ensures)

pub returns-in_err-question-clause-err : goal.returns-in_err-question-clause-err
returns-in_err-question-clause-err c =
    let error = c.in_err-question.field-0.0 in
    let past = subst (λ (n : List (List ℕ)). FailsToAdd Queries (question_past slot_of n) c.begin.new.self
    c.begin.new.message error) c.wire_labels.ensures.labels c.in_err-question.ensures.err in
    let fails : FailsResponse c.args.id c.args.name.now.labels c.args.address c.args.message.now error =
    inr (c.begin.new.self, c.begin.new.message, c.in_ok-begin.ensures.ok, inl past) in
    let exit = c.from_residual-in_err-question in
    let (failure, is, same) = err_from_is_err_and exit.result exit.ensures.1 in
    rw (is, same) fails

pub returns-in_err-record-clause-err : goal.returns-in_err-record-clause-err
returns-in_err-record-clause-err c =
    let error = c.in_err-record.field-0.0 in
    let labels = c.args.name.now.labels in
    let asks = subst (λ (n : List (List ℕ)). AddsItem Queries (question_form slot_of n 1 1) c.begin.new.self
    c.begin.new.message c.question.new.self c.question.new.message) c.wire_labels.ensures.labels c.in_ok-question.ensures.ok in
    let past = subst (λ (n : List (List ℕ)). FailsToAdd Answers (record_past slot_of n 1 1 3600 (Octets c.args.address ∷ [])) c.question.new.self
    c.question.new.message error) c.wire_labels-2.ensures.labels c.in_err-record.ensures.err in
    let fails : FailsResponse c.args.id labels c.args.address c.args.message.now error =
    inr (c.begin.new.self, c.begin.new.message, c.in_ok-begin.ensures.ok, inr (c.question.new.self, c.question.new.message, asks, past)) in
    let exit = c.from_residual-in_err-record in
    let (failure, is, same) = err_from_is_err_and exit.result exit.ensures.1 in
    rw (is, same) fails
