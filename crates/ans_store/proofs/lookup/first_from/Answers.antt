use Rattle.std.proofs.Common.{◌≡◌, true, false, sym, ◌∙◌, arith}
use Rattle.std.specs.Ordering.{is_lt}
use Rattle.dns_names_wire.specs.Words.{labels_cmp}
use Rattle.ans_store.proofs.Search.{before_middle, from_middle}
use Rattle.ans_store.proofs.lookup.first_from.Goals as goal

pub halves-preserved-then-is_before : goal.halves-preserved-then-is_before
halves-preserved-then-is_before c =
    record {
      ordered = omega arith;
      within = c.halves.invariant.within;
      before = before_middle c.args.records.now c.args.name.now.labels _ _ c.requires (omega arith) c.get.ensures (sym c.is_before.ensures ∙ c.if-is_before.true);
      others = c.halves.invariant.others;
    }

pub halves-preserved : goal.halves-preserved
halves-preserved c =
    record {
      ordered = omega arith;
      within = omega arith;
      before = c.halves.invariant.before;
      others = from_middle c.args.records.now c.args.name.now.labels _ _ c.requires (omega arith) c.get.ensures (sym c.is_before.ensures ∙ c.if-is_before.false);
    }
