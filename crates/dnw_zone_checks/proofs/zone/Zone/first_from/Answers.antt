use Rattle.std.proofs.Common.{sym, ap, ◌∙◌, arith}
use Rattle.std.specs.Ordering.{is_lt}
use Rattle.dnw_zone_checks.specs.Inside.Seeking.{is_sought}
use Rattle.dnw_zone_checks.proofs.Lookups.{before_middle, first_none, first_some, from_middle, number_within}
use Rattle.dnw_zone_checks.proofs.zone.Zone.first_from.Goals as goal

pub cmp_owner-requires : goal.cmp_owner-requires
cmp_owner-requires c =
    number_within (is_sought c.args.sought) c.args.self.now.records.now c.of-numbers.result.now _ (c.of-numbers.ensures c.args.self.now.records.now c.requires.listed) (omega arith)

pub halves-preserved-then-is_lt : goal.halves-preserved-then-is_lt
halves-preserved-then-is_lt c = record {
  ordered = omega arith;
  within = c.halves.invariant.within;
  before = before_middle (is_sought c.args.sought) c.args.self.now.records.now c.of-numbers.result.now c.args.name.now _ c.requires.ordered
      (c.of-numbers.ensures c.args.self.now.records.now c.requires.listed) (omega arith)
      (λ d. ap is_lt (sym (c.cmp_owner.ensures d)) ∙ sym c.is_lt.ensures ∙ c.if-is_lt.true);
  others = c.halves.invariant.others;
}

pub halves-preserved : goal.halves-preserved
halves-preserved c = record {
  ordered = omega arith;
  within = omega arith;
  before = c.halves.invariant.before;
  others = from_middle (is_sought c.args.sought) c.args.self.now.records.now c.of-numbers.result.now c.args.name.now _ c.requires.ordered
      (c.of-numbers.ensures c.args.self.now.records.now c.requires.listed) (omega arith)
      (λ d. ap is_lt (sym (c.cmp_owner.ensures d)) ∙ sym c.is_lt.ensures ∙ c.if-is_lt.false);
}

pub returns-then-low-numbers-clause-first : goal.returns-then-low-numbers-clause-first
returns-then-low-numbers-clause-first c =
    sym (first_some (is_sought c.args.sought) c.args.name.now c.args.self.now.records.now c.of-numbers.result.now c.halves.low
    (c.of-numbers.ensures c.args.self.now.records.now c.requires.listed) (omega arith) c.halves.invariant.before (λ k d h. c.halves.invariant.others k d (omega arith)))

pub returns-then-low-numbers-clause-within : goal.returns-then-low-numbers-clause-within
returns-then-low-numbers-clause-within c =
    number_within (is_sought c.args.sought) c.args.self.now.records.now c.of-numbers.result.now c.halves.low
    (c.of-numbers.ensures c.args.self.now.records.now c.requires.listed) (omega arith)

pub returns-else-low-numbers-clause-first : goal.returns-else-low-numbers-clause-first
returns-else-low-numbers-clause-first c =
    sym (first_none (is_sought c.args.sought) c.args.name.now c.args.self.now.records.now c.of-numbers.result.now c.halves.low
    (c.of-numbers.ensures c.args.self.now.records.now c.requires.listed) (omega arith) (omega arith) c.halves.invariant.before)
