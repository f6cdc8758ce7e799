-- What the walk has found is what the decoder takes, and the definition allows no other answer.
use Rattle.std.proofs.Common.{◌-◌, length, refl, ap, arith}
use Rattle.std.specs.Prelude.{⊤}
use Rattle.std.proofs.lemmas.Result.{err_from_is_err_and}
use Rattle.dnw_base.proofs.DecoderReads.{Takes_enough}
use Rattle.dnw_name_read.specs.Reading.{StopsAt, TakesName}
use Rattle.dnw_name_read.specs.Inside.Found.{labels_at}
use Rattle.dnw_name_read.proofs.Counts.{Reads_own}
use Rattle.dnw_name_read.proofs.Takes.{TakesName_unique, TakesName_not_StopsAt, StopsAt_unique, TakesName_moved}
use Rattle.dnw_name.proofs.name_ref.NameRef.read_counted.Goals as goal
use Rattle.dnw_name.proofs.name_ref.NameRef.read_counted.Goals.{After-from_residual, After-unwrap}

-- the fault, at the decoder
fault : (c : After-from_residual) → StopsAt c.args.decoder.now c.in_err-walked.field-0.0 c.walk.new.steps.pointers c.walk.new.steps.labels
fault c = rw (c.message-message.ensures, c.index-start.ensures.index) at c.in_err-walked.ensures.err

pub returns-in_err-walked-clause-accepts : goal.returns-in_err-walked-clause-accepts
returns-in_err-walked-clause-accepts c after ls k takes = absurd (TakesName_not_StopsAt takes (fault c))

pub returns-in_err-walked-clause-fails : goal.returns-in_err-walked-clause-fails
returns-in_err-walked-clause-fails c error k j stops =
    let p = err_from_is_err_and c.from_residual.result c.from_residual.ensures.1 in
    rw (p.1, p.2) (rw (StopsAt_unique (fault c) stops) refl)

pub returns-in_err-walked-clause-few_pointers : goal.returns-in_err-walked-clause-few_pointers
returns-in_err-walked-clause-few_pointers c = rw (← c.index-start.ensures.index) c.walk.ensures.few_pointers

pub returns-in_err-walked-clause-few_labels : goal.returns-in_err-walked-clause-few_labels
returns-in_err-walked-clause-few_labels c = c.walk.ensures.few_labels

-- the name's own octets are after the start, within the message
pub overflow_sub-walked : goal.overflow_sub-walked
overflow_sub-walked c = let (later, inside) = Reads_own c.in_ok-walked.ensures.ok.stands.name.reads in omega arith

pub unwrap-requires : goal.unwrap-requires
unwrap-requires c =
    let (later, inside) = Reads_own c.in_ok-walked.ensures.ok.stands.name.reads in
    (Takes_enough c.args.decoder.now (c.in_ok-walked.walked.end - c.index-start.result) (λ _. ⊤) c.skip.result c.skip.new.self (omega (arith, ap length c.message-message.ensures, c.index-start.ensures.index)) c.skip.ensures.takes).0

pub invariant_of-result : goal.invariant_of-result
invariant_of-result c = c.in_ok-walked.ensures.ok.lies

-- the decoder takes the name
takes : (c : After-unwrap) → TakesName c.args.decoder.now c.skip.new.self (labels_at c.message-message.result.now c.in_ok-walked.walked.first) c.walk.new.steps.pointers
takes c =
    let (later, inside) = Reads_own c.in_ok-walked.ensures.ok.stands.name.reads in
    let start = c.index-start.ensures.index in
    let name = rw (c.message-message.ensures, start) at c.in_ok-walked.ensures.ok.stands.name in
    let moved = (Takes_enough c.args.decoder.now (c.in_ok-walked.walked.end - c.index-start.result) (λ _. ⊤) c.skip.result c.skip.new.self (omega (arith, ap length c.message-message.ensures, c.index-start.ensures.index)) c.skip.ensures.takes).1 in
    let moved = rw start at moved in
    rw (c.in_ok-walked.ensures.ok.same, c.message-message.ensures, start) (TakesName_moved c.args.decoder.now c.skip.new.self _ c.in_ok-walked.walked.end _ name (omega arith) moved)

pub returns-clause-ok : goal.returns-clause-ok
returns-clause-ok c = (takes c, c.in_ok-walked.ensures.ok.lies.stands.count_is)

pub returns-clause-accepts : goal.returns-clause-accepts
returns-clause-accepts c after ls k other = TakesName_unique (takes c) other

pub returns-clause-fails : goal.returns-clause-fails
returns-clause-fails c error k j stops = absurd (TakesName_not_StopsAt (takes c) stops)

pub returns-clause-few_pointers : goal.returns-clause-few_pointers
returns-clause-few_pointers c = rw (← c.index-start.ensures.index) c.walk.ensures.few_pointers

pub returns-clause-few_labels : goal.returns-clause-few_labels
returns-clause-few_labels c = c.walk.ensures.few_labels
