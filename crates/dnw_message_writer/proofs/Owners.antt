-- Whether labels are the same is decided.
use Rattle.std.proofs.Common.{◌≡◌, ℕ, List}
use Rattle.std.specs.Bool.{Decides}
use Rattle.std.specs.Cmp.{unsigned_Decides}
use Rattle.std.specs.Cmp.Lexicographic.{pointwise_decides}
use Rattle.dnw_name_order.specs.Order.{labels_eq}

pub labels_Decides : (xs ys : List (List ℕ)) → Decides (labels_eq xs ys) (xs ≡ ys)
labels_Decides = pointwise_decides (pointwise_decides unsigned_Decides)
