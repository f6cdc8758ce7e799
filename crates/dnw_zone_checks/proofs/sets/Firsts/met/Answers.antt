use Rattle.std.proofs.Common.{None, Some, sym, ap, ◌∙◌, arith}
use Rattle.std.proofs.lemmas.List.{get_or_default}
use Rattle.std.specs.Ordering.{is_eq}
use Rattle.dnw_zone_checks.proofs.FirstOfSets.{entry_is, not_met_is_new, of_other, of_same}
use Rattle.dnw_zone_checks.proofs.sets.Firsts.met.Goals as goal

pub returns-in_default-clause-none : goal.returns-in_default-clause-none
returns-in_default-clause-none c =
    not_met_is_new c.args.records.now c.args.number c.args.code
    (entry_is c.args.records.now c.args.number c.args.code c.args.self.now c.index.result.now None c.requires.firsts c.requires.code c.index.ensures c.in_default.is)

pub returns-then-is_eq-clause-some : goal.returns-then-is_eq-clause-some
returns-then-is_eq-clause-some c =
    of_same c.args.records.now c.args.number c.in-Some.first c.args.code c.requires.within
    (entry_is c.args.records.now c.args.number c.args.code c.args.self.now c.index.result.now (Some c.in-Some.first) c.requires.firsts c.requires.code
    c.index.ensures c.in-Some.is) (λ d. ap is_eq (sym (c.cmp_owners_of.ensures d)) ∙ sym c.is_eq.ensures ∙ c.if-is_eq.true)

pub returns-then-is_eq-clause-kept : goal.returns-then-is_eq-clause-kept
returns-then-is_eq-clause-kept c =
    get_or_default c.args.self.now.numbers.items c.args.code None c.index.result.now (omega (arith, c.requires.firsts.all_types)) ∙ sym c.index.ensures ∙ c.in-Some.is

pub returns-else-is_eq-clause-none : goal.returns-else-is_eq-clause-none
returns-else-is_eq-clause-none c =
    of_other c.args.records.now c.args.number c.in-Some.first c.args.code c.requires.order c.requires.within
    (entry_is c.args.records.now c.args.number c.args.code c.args.self.now c.index.result.now (Some c.in-Some.first) c.requires.firsts c.requires.code
    c.index.ensures c.in-Some.is) (λ d. ap is_eq (sym (c.cmp_owners_of.ensures d)) ∙ sym c.is_eq.ensures ∙ c.if-is_eq.false)

pub cmp_owners_of-requires : goal.cmp_owners_of-requires
cmp_owners_of-requires c =
    let met = entry_is c.args.records.now c.args.number c.args.code c.args.self.now c.index.result.now (Some c.in-Some.first) c.requires.firsts c.requires.code
    c.index.ensures c.in-Some.is in
    record { number = omega (arith, met.before); other = c.requires.within }
