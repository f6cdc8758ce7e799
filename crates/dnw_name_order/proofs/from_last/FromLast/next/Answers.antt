use Rattle.std.proofs.Common.{rules, ◌≡◌, [], length, reverse, sym, ap, ◌∙◌}
use Rattle.dnw_name_form.proofs.OpenWires.{closed_none}
use Rattle.dnw_name_order.proofs.from_last.FromLast.next.Goals as goal

pub returns-then-is_empty : goal.returns-then-is_empty
returns-then-is_empty c =
    let empty : length c.self.inside.rest.now ≡ 0 = search rules in
    let none : c.args.self.now ≡ [] = sym c.self.view_is ∙ ap reverse (closed_none c.self.inside.rest.now empty) in
    (none, none)
