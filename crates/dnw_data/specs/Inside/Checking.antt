-- A list that is checked or walked over from the left.
use Rattle.std.specs.Prelude.{◌≡◌, ℕ, ◌≤◌, None, List, length}
use Rattle.dnw_data.specs.declared.kind.ListKind.{ListKind}
use Rattle.dnw_data.specs.Lists.{fault_within, list_fault}

-- What is left is as wrong as the whole, if no number below the least may come.
pub record Checks (kind : ListKind) (octets left : List ℕ) (least : ℕ) : Type 0 where
  pub steps : ℕ
  pub enough : length left ≤ steps
  pub same : fault_within steps kind least left ≡ list_fault kind octets

-- What is left are items in order.
pub record IsChecked (kind : ListKind) (left : List ℕ) : Type 0 where
  pub least : ℕ
  pub steps : ℕ
  pub enough : length left ≤ steps
  pub right : fault_within steps kind least left ≡ None
