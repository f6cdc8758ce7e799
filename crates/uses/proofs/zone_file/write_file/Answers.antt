use Rattle.std.proofs.Common.{[], subst, arith}
use Rattle.dns_names_wire.specs.Words.{AppendsTtl, IsFirst}
use Rattle.uses.proofs.zone_file.write_file.Goals as goal

pub returns-clause-ok : goal.returns-clause-ok
returns-clause-ok c =
    let law = c.written_texts_are_records.ensures in
    let (after, (end, at, moved)) = c.in_ok-item.ensures.ok in
    let (between, first, with_ttl, with_record) = c.in_ok-put_lines.ensures in
    let begun = c.new-context.result in
    let is_first = subst (λ origin. IsFirst origin begun) c.copied.ensures c.new-context.ensures in
    let after_ttl = law.ttls begun begun between [] first c.args.ttl [] (law.empty begun) c.requires
    (subst (λ old. AppendsTtl begun c.args.ttl old first between) c.new-text.ensures.items with_ttl) in
    let (own, plain, same) = law.records begun between c.put_lines.new.context first c.put_lines.new.text.items c.args.octets.now 0 end c.in_ok-item.item [] after_ttl
    (λ i. let fits = c.type_inv.octets i in omega arith) at with_record in
    (c.in_ok-item.item, end, at, own, plain, λ of_type found is. law.whole c.args.origin.now begun c.put_lines.new.context c.put_lines.new.text.items _ is_first (same of_type found is))
