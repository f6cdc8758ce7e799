use Rattle.std.proofs.Common.{◌≡◌, ℕ, None, Some, get_or, refl, ◌∙◌, arith, subst}
use Rattle.std.proofs.Math.ListN.{length-set}
use Rattle.std.proofs.lemmas.List.{get_or-set_other, get_or-set_same}
use Rattle.dnw_zone_checks.specs.Checks.{first_at, has_type}
use Rattle.dnw_zone_checks.proofs.FirstOfSets.{first_again, its_type, new_is_first, new_is_last, table_on}
use Rattle.dnw_zone_checks.proofs.sets.Firsts.take.Goals as goal

pub returns-in-Some-clause-first : goal.returns-in-Some-clause-first
returns-in-Some-clause-first c = λ d.
    subst (λ (code : ℕ). first_at c.args.records.now (get_or c.args.records.now c.args.number d).owner (has_type code) ≡ Some c.in-Some.first) (c.code_of-code.ensures.is d)
    (first_again c.args.records.now c.args.number c.code_of-code.result c.in-Some.first d c.in-Some.ensures.some)

pub returns-in-Some-clause-firsts : goal.returns-in-Some-clause-firsts
returns-in-Some-clause-firsts c = record {
  all_types = c.requires.firsts.all_types;
  each = table_on c.args.records.now c.args.self.now.numbers.items c.args.self.now.numbers.items c.args.number c.code_of-code.result c.in-Some.first
      c.code_of-code.ensures.is c.requires.firsts.each c.in-Some.ensures.kept (λ other not. refl) c.in-Some.ensures.some.last;
}

pub returns-clause-first : goal.returns-clause-first
returns-clause-first c = λ d.
    subst (λ (code : ℕ). first_at c.args.records.now (get_or c.args.records.now c.args.number d).owner (has_type code) ≡ Some c.args.number) (c.code_of-code.ensures.is d)
    (new_is_first c.args.records.now c.args.number c.code_of-code.result d c.requires.within c.in_default.ensures.none
    (its_type c.args.records.now c.args.number c.code_of-code.result c.code_of-code.ensures.is d))

pub returns-clause-firsts : goal.returns-clause-firsts
returns-clause-firsts c = record {
  all_types = length-set c.args.self.now.numbers.items c.code_of-code.result (Some c.args.number) ∙ c.requires.firsts.all_types;
  each = table_on c.args.records.now c.args.self.now.numbers.items _ c.args.number c.code_of-code.result c.args.number c.code_of-code.ensures.is
      c.requires.firsts.each
      (get_or-set_same c.args.self.now.numbers.items c.code_of-code.result (Some c.args.number) None
      (omega (arith, c.requires.firsts.all_types, c.code_of-code.ensures.few)))
      (λ other. get_or-set_other c.args.self.now.numbers.items c.code_of-code.result other (Some c.args.number) None)
      (new_is_last c.args.records.now c.args.number c.code_of-code.result c.requires.order c.requires.within c.in_default.ensures.none
      (its_type c.args.records.now c.args.number c.code_of-code.result c.code_of-code.ensures.is));
}
