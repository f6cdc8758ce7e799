use Rattle.std.proofs.Common.{inl, arith}
use Rattle.std.proofs.lemmas.Result.{err_from_is_err_and}
use Rattle.dnw_record.proofs.RecordReading.{started}
use Rattle.dnw_c_signed.proofs.Whole.{whole_owner}
use Rattle.dnw_c_signed.proofs.records.owner_pointers.Goals as goal

pub returns-then-rdata_offset-start-clause-ok : goal.returns-then-rdata_offset-start-clause-ok
returns-then-rdata_offset-start-clause-ok c =
    let size = rw c.owner.ensures at c.encoded_len.ensures.size in
    whole_owner c.requires.there (omega (arith, c.rdata_offset.ensures, c.if-rdata_offset-start.true, size))

pub returns-in_err-read_counted-clause-err : goal.returns-in_err-read_counted-clause-err
returns-in_err-read_counted-clause-err c =
    let p = err_from_is_err_and c.from_residual.result c.from_residual.ensures.1 in
    let begins = started c.args.message.now c.args.start c.new-reader.result c.skip.result c.skip.new.self c.new-reader.ensures c.requires.within c.skip.ensures.takes in
    let stops = rw begins at c.in_err-read_counted.ensures.err in
    rw (p.1, p.2) (inl (_, _, stops))
