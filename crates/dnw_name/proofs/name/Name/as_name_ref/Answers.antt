use Rattle.std.proofs.Common.{length, ap, ◌∙◌}
use Rattle.dnw_name.proofs.Borrowed.{labels_are, lies_at}
use Rattle.dnw_name.proofs.name.Name.as_name_ref.Goals as goal

pub invariant_of-result : goal.invariant_of-result
invariant_of-result c =
    lies_at c.as_wire.result.now c.args.self.now.labels c.encoded_len-size.result c.len.result c.as_wire.ensures c.encoded_len-size.ensures.labels
    c.encoded_len-size.ensures.size (c.len.ensures.value ∙ ap length c.wire_labels.ensures.labels)

pub returns : goal.returns
returns c = labels_are c.as_wire.result.now c.args.self.now.labels c.as_wire.ensures c.encoded_len-size.ensures.labels
