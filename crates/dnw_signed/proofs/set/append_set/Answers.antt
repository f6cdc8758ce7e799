use Rattle.std.proofs.Common.{ℕ, List, take, ◌++◌, ap, ◌∙◌, append_assoc}
use Rattle.std.specs.List.{flat_map}
use Rattle.dnw_signed.specs.RecordSets.{set_record}
use Rattle.dnw_signed.specs.Inside.Going.{all_octets}
use Rattle.dnw_signed.proofs.set.append_set.Goals as goal

pub returns-in_err-append_record-clause-grows : goal.returns-in_err-append_record-clause-grows
returns-in_err-append_record-clause-grows c =
    let (more, is) = c.append_record.ensures.grows in
    let before = flat_map (set_record c.args.head.now) (all_octets (take c.records.item-index c.args.all.now)) in
    (before ++ more, is ∙ ap (λ (x : List ℕ). x ++ more) c.records.invariant ∙ append_assoc c.args.out.now.items before more)
