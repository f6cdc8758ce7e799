use Rattle.std.proofs.Common.{◌++◌, [], ◌∷◌, ◌≡◌, List, ℕ, subst, rules, sym}
use Rattle.ans_store.proofs.Reading.{AreKept, kept_more}
use Rattle.ans_store.proofs.records.Records.read.Goals as goal

pub records-preserved : goal.records-preserved
records-preserved c =
    let pushed : c.push.new.self.items ≡ c.records.offsets.items ++ c.records.start ∷ [] = search rules in
    subst (λ (os : List ℕ). AreKept c.args.octets.now os c.in_ok-end.end) (sym pushed)
    (kept_more c.args.octets.now c.records.offsets.items c.records.start c.in_ok-end.end c.records.invariant c.in_ok-end.ensures.ok)
