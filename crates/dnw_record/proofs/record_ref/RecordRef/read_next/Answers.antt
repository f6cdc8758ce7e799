-- What the second decoder takes, the first one takes, and the definition allows no other answer.
use Rattle.std.proofs.Common.{◌≡◌, ℕ, List, refl}
use Rattle.std.proofs.lemmas.Result.{err_from_is_err_and}
use Rattle.dnw_base.specs.Decoder.{Decoder}
use Rattle.dnw_record.specs.Records.{TakesRecord, FailsRecord}
use Rattle.dnw_record.proofs.RecordReading.{TakesRecord_unique, TakesRecord_not_Fails, FailsRecord_unique, started}
use Rattle.dnw_record.proofs.record_ref.RecordRef.read_next.Goals as goal
use Rattle.dnw_record.proofs.record_ref.RecordRef.read_next.Goals.{After-from_residual, In_ok-record}

at_index : (d : Decoder) (bytes : List ℕ) (index : ℕ) (after : Decoder) → bytes ≡ d.bytes → index ≡ d.index
    → after ≡ record { bytes = bytes; index = index } → after ≡ d
at_index d bytes index after same there is = rw (same, there) at is

stops : (c : After-from_residual) → FailsRecord c.args.reader.now c.in_err-record.field-0.0
stops c =
    let within = rw (← c.message.ensures) at c.index.ensures.within in
    let begins = started c.message.result.now c.index.result c.new-ahead.result c.skip.result c.skip.new.self c.new-ahead.ensures within c.skip.ensures.takes in
    rw (at_index c.args.reader.now _ _ _ c.message.ensures c.index.ensures.index begins) at c.in_err-record.ensures.err

takes : (c : In_ok-record) → TakesRecord c.args.reader.now c.in_ok-record.record c.read_on.new.reader
takes c =
    let within = rw (← c.message.ensures) at c.index.ensures.within in
    let begins = started c.message.result.now c.index.result c.new-ahead.result c.skip.result c.skip.new.self c.new-ahead.ensures within c.skip.ensures.takes in
    rw (at_index c.args.reader.now _ _ _ c.message.ensures c.index.ensures.index begins) at c.in_ok-record.ensures.ok

pub returns-in_err-record-clause-accepts : goal.returns-in_err-record-clause-accepts
returns-in_err-record-clause-accepts c x after h = absurd (TakesRecord_not_Fails c.args.reader.now x after _ h (stops c))

pub returns-in_err-record-clause-fails : goal.returns-in_err-record-clause-fails
returns-in_err-record-clause-fails c e h =
    let p = err_from_is_err_and c.from_residual.result c.from_residual.ensures.1 in
    rw (p.1, p.2) (rw (FailsRecord_unique c.args.reader.now _ e (stops c) h) refl)

pub returns-clause-accepts : goal.returns-clause-accepts
returns-clause-accepts c x after h = TakesRecord_unique c.args.reader.now _ x _ after (takes c) h

pub returns-clause-fails : goal.returns-clause-fails
returns-clause-fails c e h = absurd (TakesRecord_not_Fails c.args.reader.now _ _ e (takes c) h)
