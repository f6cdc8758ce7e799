use Rattle.std.proofs.Common.{rules, ◌≡◌, List, ℕ, ap, ◌∙◌, subst}
use Rattle.std.specs.Prelude.{Option}
use Rattle.dnw_base.specs.Names.{NameValue}
use Rattle.dnw_zone_file.specs.ShortLines.{IsShortText, short_ttl}
use Rattle.dnw_zone_file.proofs.short_line.append_short_record.Goals as goal

pub returns-clause-ok : goal.returns-clause-ok
returns-clause-ok c =
    let before = c.args.context.now in
    let r = c.args.record.now in
    let line = c.in_ok-line.line.items in
    let owner : c.owner_of-owner.result.labels ≡ r.owner = ap (λ (n : NameValue). n.labels) c.owner_of-owner.ensures in
    let ttl : c.short_ttl-ttl.result ≡ short_ttl before.default_ttl r.ttl = c.short_ttl-ttl.ensures ∙ ap (short_ttl before.default_ttl) c.ttl.ensures in
    let is : IsShortText before r.owner (short_ttl before.default_ttl r.ttl) r line =
    subst (λ (t : Option ℕ). IsShortText before r.owner t r line) ttl (subst (λ (ls : List (List ℕ)). IsShortText before ls c.short_ttl-ttl.result r line) owner c.in_ok-line.ensures) in
    (line, is, search rules, search rules)
