use Rattle.std.proofs.Common.{◌≤◌, ℕ, List, ◌++◌, length, inr, sym, ap, ◌∙◌, subst, arith}
use Rattle.dnw_signed.specs.CanonicalData.{IsCanonical}
use Rattle.dnw_data.specs.Signature.{before_signer}
use Rattle.dnw_signed.proofs.Putting.{canonical_copy, copy_of}
use Rattle.dnw_signed.proofs.covering.fields_of.Goals as goal

pub returns-then-as_slice-lt-BEFORE_SIGNER-clause-err : goal.returns-then-as_slice-lt-BEFORE_SIGNER-clause-err
returns-then-as_slice-lt-BEFORE_SIGNER-clause-err c =
    let (more, is, grown) = c.in-Ok.ensures.ok in
    let whole = grown ∙ ap (λ (o : List ℕ). o ++ more) c.in_ok-fields.ensures.items in
    inr (more, is, omega (arith, ap length c.as_slice.ensures.value, ap length whole, c.if-as_slice-lt-BEFORE_SIGNER.true))

pub cut_signature-requires : goal.cut_signature-requires
cut_signature-requires c =
    let (more, is, grown) = c.in-Ok.ensures.ok in
    let whole = grown ∙ ap (λ (o : List ℕ). o ++ more) c.in_ok-fields.ensures.items in
    let (own, copied, canonical, size) = canonical_copy c.args.rrsig.now more is in
    let long : before_signer ≤ length own = omega (arith, size, ap length c.as_slice.ensures.value, ap length whole, c.if-as_slice-lt-BEFORE_SIGNER.false) in
    (copy_of c.args.rrsig.now own, (c.requires, long), subst (IsCanonical (copy_of c.args.rrsig.now own)) (sym whole) canonical)

pub returns-clause-ok : goal.returns-clause-ok
returns-clause-ok c =
    let (more, is, grown) = c.in-Ok.ensures.ok in
    let whole = grown ∙ ap (λ (o : List ℕ). o ++ more) c.in_ok-fields.ensures.items in
    let (own, copied, canonical, size) = canonical_copy c.args.rrsig.now more is in
    let long : before_signer ≤ length own = omega (arith, size, ap length c.as_slice.ensures.value, ap length whole, c.if-as_slice-lt-BEFORE_SIGNER.false) in
    record {
      octets = own;
      copied = copied;
      parts = c.cut_signature.ensures (copy_of c.args.rrsig.now own) (c.requires, long) (subst (IsCanonical (copy_of c.args.rrsig.now own)) (sym whole) canonical);
    }
