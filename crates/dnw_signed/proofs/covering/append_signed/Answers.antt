use Rattle.std.proofs.Common.{List, ℕ, ◌++◌, inl, inr, sym, ap, ◌∙◌, subst, append_assoc}
use Rattle.std.proofs.lemmas.Result.{IfErr-weaker, on_ok_weaker}
use Rattle.dnw_record.specs.Records.{RecordValue}
use Rattle.dnw_signed.specs.Covering.{FailsToSign, IsRightRrsig, IsSigned}
use Rattle.dnw_signed.specs.declared.error.CanonicalError.{CanonicalError}
use Rattle.dnw_signed.specs.Inside.Selecting.{FailsRecords, KnowsZone}
use Rattle.dnw_signed.proofs.OnlyOne.{after_start}
use Rattle.dnw_signed.proofs.covering.append_signed.Goals as goal

fails_to_sign : (s : RecordValue) (records : List RecordValue) (fields : List ℕ) (error : CanonicalError) → IsRightRrsig s fields
    → FailsRecords s fields records error → FailsToSign s records error
fails_to_sign s records fields error right (inl covered) = inr (inl (fields, right, covered))
fails_to_sign s records fields error right (inr (none, is)) = inr (inr (fields, right, none, is))

pub append_records-requires-clause-zone : goal.append_records-requires-clause-zone
append_records-requires-clause-zone c =
    let (fields, right, zone, is) = c.in_ok-in_zone.ensures.ok in
    let here = after_start c.args.out.now.items fields _ c.len-start.result is (c.len-start.ensures ∙ c.args.out.now.ok.0) in
    subst (λ (x : List ℕ). KnowsZone c.args.rrsig.now x c.in_ok-in_zone.in_zone) (sym here) zone

pub returns-clause-ok : goal.returns-clause-ok
returns-clause-ok c =
    let (fields, right, zone, is) = c.in_ok-in_zone.ensures.ok in
    let out = c.args.out.now.items in
    let here = after_start out fields _ c.len-start.result is (c.len-start.ensures ∙ c.args.out.now.ok.0) in
    on_ok_weaker c.append_records.result
    (λ h. let (own, signed, grown) = h in (
      fields ++ own,
      subst (λ (x : List ℕ). IsSigned c.args.rrsig.now c.args.records.now (x ++ own)) here signed,
      grown ∙ ap (λ (x : List ℕ). x ++ own) is ∙ append_assoc out fields own,
    )) c.append_records.ensures.ok

pub returns-clause-err : goal.returns-clause-err
returns-clause-err c =
    let (fields, right, zone, is) = c.in_ok-in_zone.ensures.ok in
    let here = after_start c.args.out.now.items fields _ c.len-start.result is (c.len-start.ensures ∙ c.args.out.now.ok.0) in
    IfErr-weaker c.append_records.result _ _
    (λ error fails. fails_to_sign c.args.rrsig.now c.args.records.now _ error (subst (IsRightRrsig c.args.rrsig.now) (sym here) right) fails)
    c.append_records.ensures.err
