use Rattle.std.proofs.Common.{List, ℕ, refl, ◌∙◌}
use Rattle.dnw_data.specs.Values.{counted}
use Rattle.dnw_zone_data.proofs.Lengths.{counted_octets}
use Rattle.dnw_zone_data.proofs.parsing.parse_counted.Goals as goal

pub returns : goal.returns
returns c =
    let old : List ℕ = c.args.out.now.items in
    let (own, is, items) = rw c.if-not-branch.false at c.in_ok-push_spelled.ensures.is in
    (counted own, (own, is, refl), counted_octets old own c.push_spelled.new.out.items c.put_len.new.out.items (items ∙ rw c.in_ok-push.ensures.items refl) (rw (c.len-start.ensures, c.args.out.now.ok.0) at c.put_len.ensures))
