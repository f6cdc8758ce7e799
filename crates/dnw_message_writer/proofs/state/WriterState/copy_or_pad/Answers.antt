-- A message is written again, padded or not; or it is not.
use Rattle.std.proofs.Common.{◌≡◌, if◌then◌else◌, inl, inr, rules}
use Rattle.dnw_message_writer.specs.Sets.{cut_off}
use Rattle.dnw_message_writer.proofs.state.WriterState.copy_or_pad.Goals as goal

pub returns-in-Ok-clause-ok : goal.returns-in-Ok-clause-ok
returns-in-Ok-clause-ok c = inl (c.in_default.ensures.none, c.in-Ok.ensures.ok)

pub returns-in-Err-clause-err : goal.returns-in-Err-clause-err
returns-in-Err-clause-err c = inl (c.in_default.ensures.none, c.in-Err.ensures.err)

pub returns-in-Err-copy_body-clause-err : goal.returns-in-Err-copy_body-clause-err
returns-in-Err-copy_body-clause-err c = inr (c.in-Some.opt, c.in-Some.ensures.some, inl c.in-Err-copy_body.ensures.err)

pub returns-in-Err-copy_ends-clause-err : goal.returns-in-Err-copy_ends-clause-err
returns-in-Err-copy_ends-clause-err c =
    inr (
      c.in-Some.opt,
      c.in-Some.ensures.some,
      inr (c.copy_body.new.self, c.copy_body.new.message, c.in-Ok-copy_body.missing, c.in-Ok-copy_body.ensures.ok, c.in-Err-copy_ends.ensures.err),
    )

pub returns-clause-ok : goal.returns-clause-ok
returns-clause-ok c =
    let whole = c.copy_ends.new.message in
    let new_is : c.if-missing.message ≡ (if c.in-Ok-copy_body.missing then cut_off whole else whole) = search rules in
    inr (record {
      opt = c.in-Some.opt;
      to_pad = c.in-Some.ensures.some;
      filled = c.copy_body.new.self;
      filled_by = c.copy_body.new.message;
      missing = c.in-Ok-copy_body.missing;
      body = c.in-Ok-copy_body.ensures.ok;
      whole = whole;
      ends = c.in-Ok-copy_ends.ensures.ok;
      new_is = new_is;
    })
