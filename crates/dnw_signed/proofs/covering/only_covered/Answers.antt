use Rattle.std.proofs.Common.{◌≡◌, ◌<◌, true, false, length, sym, ap, ◌+◌, ◌∙◌, arith}
use Rattle.dnw_signed.proofs.OnlyOne.{finds, none_so_far, passes}
use Rattle.dnw_signed.proofs.covering.only_covered.Goals.{then-is_covered+else-is_some, else-is_covered}
use Rattle.dnw_signed.proofs.covering.only_covered.Goals as goal

pub records-preserved : goal.records-preserved
records-preserved c =
    let less : c.records.item-index < length c.args.records.now = omega (arith, c.records-test.true) in
    let records = c.args.records.now in
    let (found, count) = c.records.invariant in (
      elim c.if-is_covered.branch [
        | then-is_covered+else-is_some w ↦
            rw (w.only-is, count) (finds records c.records.item-index c.item-item.result c.item-item.is less (none_so_far _ _ _ c.records.only (sym w.is_some.ensures ∙ w.if-is_some.false) found) (c.is_covered.ensures.0 w.if-is_covered.true))
        | else-is_covered w ↦
            rw w.only-is (passes records c.records.item-index c.item-item.result c.records.only c.item-item.is less found (λ covered. let no : false ≡ true = sym w.if-is_covered.false ∙ c.is_covered.ensures.1 covered in cc))
      ],
      ap (λ n. n + 1) count,
    )
