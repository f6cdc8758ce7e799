use Rattle.std.proofs.Common.{◌≡◌, ap, inr}
use Rattle.dnw_message_read.specs.declared.header.Header.{Header}
use Rattle.dnw_message_writer.proofs.Opts.{if_err_as, on_ok_as}
use Rattle.dnw_message_writer.proofs.state.WriterState.copy_questions.Goals as goal

pub returns-clause-ok : goal.returns-clause-ok
returns-clause-ok c =
    let id : c.header.result.now.metadata.id ≡ c.args.source.now.header.metadata.id = ap (λ (h : Header). h.metadata.id) c.header.ensures in
    on_ok_as c.copy_queries.result
    (λ adds. record {
      first = c.begin_copy.new.self;
      begun = c.begin_copy.new.message;
      id_fits = rw id at c.begin_copy.ensures.fit.0;
      flags_fit = rw c.flags_of-flags.ensures at c.begin_copy.ensures.fit.1;
      begins = rw (id, c.flags_of-flags.ensures) at c.begin_copy.ensures.begins;
      held = c.in-Ok.held;
      holds = rw c.additionals.ensures at c.in-Ok.ensures.ok;
      adds = adds;
    }) (rw c.queries.ensures at c.copy_queries.ensures.ok)

pub returns-clause-err : goal.returns-clause-err
returns-clause-err c =
    let id : c.header.result.now.metadata.id ≡ c.args.source.now.header.metadata.id = ap (λ (h : Header). h.metadata.id) c.header.ensures in
    if_err_as c.copy_queries.result _ _
    (λ e stops. inr (record {
      first = c.begin_copy.new.self;
      begun = c.begin_copy.new.message;
      begins = rw (id, c.flags_of-flags.ensures) at c.begin_copy.ensures.begins;
      held = c.in-Ok.held;
      holds = rw c.additionals.ensures at c.in-Ok.ensures.ok;
      stops = stops;
    })) (rw c.queries.ensures at c.copy_queries.ensures.err)
