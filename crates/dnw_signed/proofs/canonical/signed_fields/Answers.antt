use Rattle.std.proofs.Common.{◌≡◌, ◌≤◌, length, ap, arith, rules}
use Rattle.dnw_base.specs.RecordTypes.{type_code}
use Rattle.dnw_base.specs.declared.record_type.RecordType.TheVariants.{RRSIG}
use Rattle.dnw_data.specs.Signature.{before_signer}
use Rattle.dnw_signed.proofs.canonical.signed_fields.Goals as goal

pub cut_signature-requires : goal.cut_signature-requires
cut_signature-requires c =
    let kind : type_code c.args.rrsig.now.record_type ≡ type_code RRSIG = search (rules, c.if-from.false, c.from.ensures, c.from-2.ensures, c.record_type.ensures) in
    let long : before_signer ≤ length c.args.rrsig.now.octets = omega (arith, ap length c.octets.ensures.octets, c.if-octets-lt-BEFORE_SIGNER.false) in
    (c.args.rrsig.now, (kind, long), c.in_ok-fields.ensures.canonical)

pub returns-clause-ok : goal.returns-clause-ok
returns-clause-ok c =
    let kind : type_code c.args.rrsig.now.record_type ≡ type_code RRSIG = search (rules, c.if-from.false, c.from.ensures, c.from-2.ensures, c.record_type.ensures) in
    let long : before_signer ≤ length c.args.rrsig.now.octets = omega (arith, ap length c.octets.ensures.octets, c.if-octets-lt-BEFORE_SIGNER.false) in
    c.cut_signature.ensures c.args.rrsig.now (kind, long) c.in_ok-fields.ensures.canonical
