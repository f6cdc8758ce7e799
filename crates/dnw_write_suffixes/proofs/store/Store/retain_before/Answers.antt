-- Those that are left are the ones before the offset.
use Rattle.std.proofs.Common.{nat_lt, rules, ap, ◌∙◌}
use Rattle.std.proofs.lemmas.Fn.{filter_same}
use Rattle.dnw_write_suffixes.specs.Candidates.{candidates_before}
use Rattle.dnw_write_suffixes.specs.Inside.Store.{held}
use Rattle.dnw_write_suffixes.specs.declared.store.Entry.{Entry}
use Rattle.dnw_write_suffixes.proofs.Held.{are_held_before, held_before}
use Rattle.dnw_write_suffixes.proofs.store.Store.retain_before.Goals as goal

pub invariant_of-self : goal.invariant_of-self
invariant_of-self c =
    rw (filter_same _ (λ (e : Entry). nat_lt e.start c.args.offset) _ (λ x b f q. search rules) _ _ c.retain.ensures.filtered)
    (are_held_before _ _ c.args.offset c.self.inside.entries.items c.self.invariant)

pub returns : goal.returns
returns c =
    let kept = filter_same _ (λ (e : Entry). nat_lt e.start c.args.offset) _
    (λ x b f q. search rules) _ _ c.retain.ensures.filtered in
    let bytes = c.self.inside.bytes.items in
    c.cut.ensures ∙ (ap (held bytes) kept
    ∙ (held_before bytes c.args.offset c.self.inside.entries.items ∙ ap (candidates_before c.args.offset) c.self.view_is))
