use Rattle.std.proofs.Common.{◌≡◌, ◌≤◌, ◌%◌, ap, ◌∙◌, arith}
use Rattle.dnw_message_writer.specs.Replies.{field_at, most_code, reply_code, reply_flags}
use Rattle.dnw_message_writer.proofs.state.WriterState.reply_to.Goals as goal

pub returns-in-Err-clause-err : goal.returns-in-Err-clause-err
returns-in-Err-clause-err c =
    let request = c.args.request.now in
    let flags = c.args.flags in
    let code = reply_code c.asked_of-query.result.0 c.args.code in
    let own : c.reply_flags-flags.result ≡ reply_flags (field_at request 2) flags (code % 16) =
    c.reply_flags-flags.ensures
    ∙ (ap (λ n. reply_flags n flags (c.reply_code-code.result % 16)) c.field_at.ensures ∙ ap (λ n. reply_flags (field_at request 2) flags (n % 16)) c.reply_code-code.ensures) in (
      c.is_request.ensures.0 c.if-not-is_request.false,
      c.asked_of-query.result.1,
      c.asked_of-query.result.0,
      c.asked_of-query.ensures,
      rw (c.field_at-id.ensures, own) at c.in-Err.ensures.err,
    )

pub returns-clause-ok : goal.returns-clause-ok
returns-clause-ok c =
    let request = c.args.request.now in
    let flags = c.args.flags in
    let asked = c.asked_of-query.result.0 in
    let code = reply_code asked c.args.code in
    let own : c.reply_flags-flags.result ≡ reply_flags (field_at request 2) flags (code % 16) =
    c.reply_flags-flags.ensures
    ∙ (ap (λ n. reply_flags n flags (c.reply_code-code.result % 16)) c.field_at.ensures ∙ ap (λ n. reply_flags (field_at request 2) flags (n % 16)) c.reply_code-code.ensures) in
    let few : code ≤ most_code asked.has_edns = omega (arith, c.if-code-most_code.false, c.reply_code-code.ensures, c.most_code.ensures) in (
      c.is_request.ensures.0 c.if-not-is_request.false,
      c.asked_of-query.result.1,
      c.asked_of-query.ensures,
      few,
      c.begin_with-begun.new.self,
      rw (c.field_at-id.ensures, own) at c.in_default.ensures.ok,
      rw c.reply_code-code.ensures at c.prepare_for.ensures,
    )
