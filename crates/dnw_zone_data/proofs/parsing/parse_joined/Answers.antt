use Rattle.std.proofs.Common.{List, ℕ, sym, ◌∙◌, subst, IfOk}
use Rattle.dnw_zone_data.specs.Parsing.{SpellsOctets}
use Rattle.dnw_zone_data.specs.Words.{is_no_space}
use Rattle.dnw_zone_values.specs.Inside.Steps.{PushesOne}
use Rattle.dnw_zone_data.proofs.Pushed.{all_kept, as_octets}
use Rattle.dnw_zone_data.proofs.parsing.parse_joined.Goals as goal

pub returns-then-has_no_spaces : goal.returns-then-has_no_spaces
returns-then-has_no_spaces c =
    let left : List ℕ = c.args.left.now in
    let whole = all_kept is_no_space left (sym c.has_no_spaces.ensures ∙ c.if-has_no_spaces.true) in
    let Is : List ℕ → Type 0 = λ t. IfOk c.push_octets.result (PushesOne (SpellsOctets c.args.shown t) c.args.out.now.items c.push_octets.new.out.items) in
    as_octets (SpellsOctets c.args.shown _) c.args.out.now.items c.push_octets.new.out.items c.push_octets.result (subst Is (sym whole) c.push_octets.ensures)

pub returns : goal.returns
returns c =
    let Is : List ℕ → Type 0 = λ t. IfOk c.push_octets-2.result (PushesOne (SpellsOctets c.args.shown t) c.args.out.now.items c.push_octets-2.new.out.items) in
    as_octets (SpellsOctets c.args.shown _) c.args.out.now.items c.push_octets-2.new.out.items c.push_octets-2.result
    (subst Is (c.as_slice.ensures.value ∙ c.in_ok-joined.ensures) c.push_octets-2.ensures)
