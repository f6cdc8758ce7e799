-- The name is read where the data start, and the definition allows no other answer.
use Rattle.std.proofs.Common.{refl, rules}
use Rattle.std.proofs.lemmas.Result.{err_from_is_err_and}
use Rattle.dnw_record.specs.Records.{FailsDataName}
use Rattle.dnw_record.proofs.RecordReading.{HasDataName_unique, HasDataName_not_Fails, FailsDataName_unique, data_name_read, data_name_stops}
use Rattle.dnw_record.proofs.record_ref.RecordRef.data_name.Goals as goal
use Rattle.dnw_record.proofs.record_ref.RecordRef.data_name.Goals.{After-from_residual}

fails : (c : After-from_residual) → FailsDataName c.args.self.now c.in_err-name.field-0.0
fails c =
    data_name_stops _ _ c.self.view_is c.new-reader.result c.skip.result c.skip.new.self c.in_err-name.field-0.0 c.new-reader.ensures
    c.self.invariant c.skip.ensures.takes c.in_err-name.ensures.err

pub returns-in_err-name-clause-accepts : goal.returns-in_err-name-clause-accepts
returns-in_err-name-clause-accepts c name h = absurd (HasDataName_not_Fails c.args.self.now name _ h (fails c))

pub returns-in_err-name-clause-fails : goal.returns-in_err-name-clause-fails
returns-in_err-name-clause-fails c error h =
    let p = err_from_is_err_and c.from_residual.result c.from_residual.ensures.1 in
    rw (p.1, p.2) (rw (FailsDataName_unique c.args.self.now _ error (fails c) h) refl)

pub overflow_sub-read : goal.overflow_sub-read
overflow_sub-read c =
    (data_name_read _ _ c.self.view_is c.new-reader.result c.skip.result c.skip.new.self c.read.new.decoder c.in_ok-name.name
    c.index.result c.new-reader.ensures c.self.invariant c.skip.ensures.takes c.in_ok-name.ensures.ok c.index.ensures.index).0

pub returns-then-read-len : goal.returns-then-read-len
returns-then-read-len c =
    let (_, _, fails) = data_name_read _ _ c.self.view_is c.new-reader.result c.skip.result c.skip.new.self c.read.new.decoder c.in_ok-name.name
    c.index.result c.new-reader.ensures c.self.invariant c.skip.ensures.takes c.in_ok-name.ensures.ok c.index.ensures.index in
    let f = fails c.if-read-len.true in
    record {
      ok = tt;
      err = f;
      accepts = λ name h. HasDataName_not_Fails c.args.self.now name _ h f;
      fails = λ error h. rw (FailsDataName_unique c.args.self.now _ error f h) refl;
      no_memory = search rules;
    }

pub returns : goal.returns
returns c =
    let (_, has, _) = data_name_read _ _ c.self.view_is c.new-reader.result c.skip.result c.skip.new.self c.read.new.decoder c.in_ok-name.name
    c.index.result c.new-reader.ensures c.self.invariant c.skip.ensures.takes c.in_ok-name.ensures.ok c.index.ensures.index in
    let h = has c.if-read-len.false in
    record {
      ok = h;
      err = tt;
      accepts = λ name g. HasDataName_unique c.args.self.now c.in_ok-name.name name h g;
      fails = λ error g. absurd (HasDataName_not_Fails c.args.self.now _ error h g);
      no_memory = search rules;
    }
