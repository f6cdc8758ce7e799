-- Octets that are data with every name whole are read as one list of pieces, and so are copied as they are.
use Rattle.std.proofs.Common.{◌≡◌, ℕ, Result, Ok, Err, IfOk, IfErr, MatchResult, List, refl, sym, ap, ◌∙◌}
use Rattle.dnw_base.specs.declared.dns_class.DNSClass.{DNSClass}
use Rattle.dnw_base.specs.declared.record_type.RecordType.{RecordType}
use Rattle.dnw_record.specs.declared.rdata.RDataError.{RDataError}
use Rattle.dnw_record.specs.declared.rdata.RDataError.TheVariants.{Field, Memory}
use Rattle.dnw_record.specs.DataPieces.{DataValue, IsData, kinds_of, octets_of}
use Rattle.dnw_record.specs.DataCopies.{Copies, FailsToCopy, alone}
use Rattle.dnw_record.proofs.Copying.{not_both}
use Rattle.dnw_record.proofs.Pieces.{pieces_unique, whole_pieces}
use Rattle.dnw_record.proofs.rdata.RData.new.Goals as goal

kept : (class : DNSClass) (record_type : RecordType) (octets : List ℕ) (result : Result DataValue RDataError)
    → IfOk result (λ r. (r.class ≡ class) × (r.record_type ≡ record_type) × Copies (kinds_of class record_type octets) (alone octets) r.octets)
    → IfErr result (FailsToCopy (kinds_of class record_type octets) (alone octets))
    → IsData (kinds_of class record_type octets) octets → MatchResult result (λ r. r.octets ≡ octets) (λ e. e ≡ Memory)
kept c t octets (Ok r) (_, _, (pieces', takes', is)) err (pieces, has) =
    let kinds = kinds_of c t octets in
    is ∙ ap octets_of (pieces_unique kinds (alone octets) pieces' pieces takes' (whole_pieces kinds octets pieces has)) ∙ sym has.whole
kept c t octets (Err Memory) ok err (pieces, has) = refl
kept c t octets (Err (Field error)) ok err (pieces, has) =
    let kinds = kinds_of c t octets in
    absurd (not_both kinds (alone octets) pieces error (whole_pieces kinds octets pieces has) err)

pub returns-clause-kept : goal.returns-clause-kept
returns-clause-kept c =
    kept c.args.class c.args.record_type c.args.octets.now c.copied.result (rw (c.fields_of-kinds.ensures, c.new.ensures) at c.copied.ensures.ok) (rw (c.fields_of-kinds.ensures, c.new.ensures) at c.copied.ensures.err)
