-- One record more is written.
use Rattle.std.proofs.Common.{◌≡◌, ◌+◌, ◌<◌, [], ◌∷◌, ◌++◌, length, take, sym, ap, ◌∙◌, subst, arith}
use Rattle.std.proofs.lemmas.List.{take_more}
use Rattle.dns_names_wire.specs.Words.{EmitsRecord, InTurn, WireRecord, value}
use Rattle.uses.proofs.Written.{one_more}
use Rattle.uses.proofs.records.write_first.Goals as goal

pub records-preserved : goal.records-preserved
records-preserved c =
    let (turn, ready, le, lent) = c.records.invariant in
    let rs = c.args.records.now in
    let n = c.records.count in
    let item = c.index-records-count.result in
    let below : n < length rs = omega (arith, c.records-test.true) in
    let more : take (n + 1) rs ≡ take n rs ++ item ∷ [] =
    take_more rs n item below ∙ ap (λ (r : WireRecord). take n rs ++ r ∷ []) (sym c.index-records-count.is) in (
      subst (λ xs. InTurn EmitsRecord (value c.args.encoder.now) xs (value c.write_whole.new.encoder)) (sym more)
          (one_more (value c.args.encoder.now) (value c.records.encoder) (value c.write_whole.new.encoder) (take n rs) item turn c.in_default.ensures.written),
      c.in_default.ensures.ready,
      omega (arith, below),
      c.in_default.ensures.lender ∙ lent,
    )
