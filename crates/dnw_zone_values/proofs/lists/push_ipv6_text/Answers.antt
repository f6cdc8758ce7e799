use Rattle.std.proofs.Common.{◌≡◌, ◌++◌, List, ℕ, take, sym, ap, ◌∙◌}
use Rattle.std.proofs.Math.Seq.{take-length}
use Rattle.std.specs.Net.Addr.{segments_of}
use Rattle.std.specs.Net.Text.{ipv6_text}
use Rattle.dnw_zone_values.proofs.lists.push_ipv6_text.Goals as goal

pub returns : goal.returns
returns c =
    let own : List ℕ = c.args.own.now in
    let chunk = rw c.unwrap.ensures at c.first_chunk.ensures.cases in
    let same : c.unwrap.result.now ≡ own = chunk.same ∙ ap (λ (n : ℕ). take n own) (sym c.requires) ∙ take-length own in
    let shown = c.as_bytes.ensures.value ∙ c.in_ok-shown.ensures.ok ∙ ap ipv6_text c.from-address.ensures ∙ ap (λ (o : List ℕ). ipv6_text (segments_of o)) same in
    c.in_ok-extend_from_slice.ensures.items ∙ ap (λ (xs : List ℕ). c.args.text.now.items ++ xs) shown
