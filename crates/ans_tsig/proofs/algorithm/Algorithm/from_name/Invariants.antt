use Rattle.std.proofs.Common.{◌≡◌, drop}
use Rattle.std.specs.List.{find}
use Rattle.dns_names_wire.specs.Words.{is_same}
use Rattle.ans_tsig.specs.Algorithms.{algorithm_labels, algorithm_by_name}
use Rattle.ans_tsig.proofs.algorithm.Algorithm.from_name.Given as goal

abbrev pub invariant-all : goal.invariant-all
invariant-all l = find (λ a. is_same (algorithm_labels a) l.name.labels) (drop l.algorithm-index l.algorithm-items) ≡ algorithm_by_name l.name.labels
