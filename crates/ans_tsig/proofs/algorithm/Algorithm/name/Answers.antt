use Rattle.std.proofs.Common.{◌≡◌, List, ℕ}
use Rattle.ans_tsig.specs.Algorithms.{algorithm_labels}
use Rattle.ans_tsig.proofs.AlgorithmNames.{name_taken, ok_holds, ok_if}
use Rattle.ans_tsig.proofs.algorithm.Algorithm.name.Goals as goal

pub unwrap-requires : goal.unwrap-requires
unwrap-requires c =
    ok_if _ _ (c.read.ensures.accepts _ _ _ (name_taken c.args.self c.new-reader.result c.wire.result.now c.reads_back.ensures c.wire.ensures c.new-reader.ensures)).0

pub returns : goal.returns
returns c =
    ok_holds (λ (name : List (List ℕ)). name ≡ algorithm_labels c.args.self) c.read.result c.unwrap.result c.unwrap.ensures
    (c.read.ensures.accepts _ _ _ (name_taken c.args.self c.new-reader.result c.wire.result.now c.reads_back.ensures c.wire.ensures c.new-reader.ensures)).0
