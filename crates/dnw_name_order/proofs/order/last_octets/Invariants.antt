use Rattle.std.proofs.Common.{◌≡◌, ℕ, List, ◌++◌, length}
use Rattle.dnw_base.specs.Names.{encoded_size}
use Rattle.dnw_name_order.proofs.order.last_octets.Given as goal

abbrev pub invariant-passed : goal.invariant-passed
invariant-passed l = record {
  front : List (List ℕ);
  last : l.fn.labels ≡ front ++ l.labels;
  ends : (before rest : List (List ℕ)) → l.fn.labels ≡ before ++ rest → encoded_size rest ≡ l.size → (between : List (List ℕ)) × (l.labels ≡ between ++ rest);
}

abbrev pub decreases-passed : goal.decreases-passed
decreases-passed l = length l.labels
