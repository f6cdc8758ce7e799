use Rattle.std.proofs.Common.{◌≡◌, ◌-◌, refl, sym, ◌∙◌, rules, arith}
use Rattle.dnw_message_writer.proofs.Eights.{all_alike, all_eights, eight_more, none_alike}
use Rattle.dnw_message_writer.proofs.standing.are_at.Goals as goal

pub eights-init : goal.eights-init
eights-init c = none_alike c.args.message.now c.args.at c.args.octets.now _ refl

pub eights-preserved : goal.eights-preserved
eights-preserved c =
    let same : c.eight_at.result ≡ c.eight_at-in-eights.result = search rules in
    eight_more c.args.message.now c.args.at c.args.octets.now (c.eights.left - 8) c.eights.left (omega arith) (omega (arith, c.eights-test.true))
    (sym c.eight_at.ensures ∙ (same ∙ c.eight_at-in-eights.ensures)) c.eights.invariant

pub returns-then-octets-ge-EIGHT : goal.returns-then-octets-ge-EIGHT
returns-then-octets-ge-EIGHT c = λ yes.
    let first = c.eight_at-then-octets-ge-EIGHT in
    let second = c.eight_at-then-octets-ge-EIGHT-2 in
    let same : first.result ≡ second.result = search rules in
    all_eights c.args.message.now c.args.at c.args.octets.now c.eights.left (omega (arith, c.eights-test.false)) c.requires
    (sym first.ensures ∙ (same ∙ second.ensures)) c.eights.invariant

pub returns : goal.returns
returns c = λ yes.
    all_alike c.args.message.now c.args.at c.args.octets.now c.octets.left (omega (arith, c.octets-test.false)) c.requires c.octets.invariant
