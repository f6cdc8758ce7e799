-- A copied text has the same bytes.
use Rattle.std.proofs.Common.{refl}
use Rattle.dnw_base.proofs.error.DecodeError.clone.Goals as goal

pub returns-in-UnknownDnsClassStr-clause-ok : goal.returns-in-UnknownDnsClassStr-clause-ok
returns-in-UnknownDnsClassStr-clause-ok c =
    rw c.in-UnknownDnsClassStr.is (c.in_ok-clone-in-UnknownDnsClassStr.field-0, refl, c.in_ok-clone-in-UnknownDnsClassStr.ensures.cases)

pub returns-in-UnknownRecordTypeStr-clause-ok : goal.returns-in-UnknownRecordTypeStr-clause-ok
returns-in-UnknownRecordTypeStr-clause-ok c =
    rw c.in-UnknownRecordTypeStr.is (c.in_ok-clone-in-UnknownRecordTypeStr.field-0, refl, c.in_ok-clone-in-UnknownRecordTypeStr.ensures.cases)
