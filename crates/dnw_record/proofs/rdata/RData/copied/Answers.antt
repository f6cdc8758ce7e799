use Rattle.std.proofs.Common.{◌++◌, ap, ◌∙◌}
use Rattle.dnw_record.proofs.Alike.{copied_data}
use Rattle.dnw_record.proofs.rdata.RData.copied.Goals as goal

pub invariant_of-result : goal.invariant_of-result
invariant_of-result c =
    let (more, (pieces, takes, is), longer) = c.in_ok-copy_fields.ensures.ok in
    let whole = longer ∙ ap (λ x. x ++ more) c.in_ok-octets.ensures.items in
    copied_data c.args.class c.args.record_type c.args.reader _ (pieces, rw c.requires at takes, whole ∙ is)
