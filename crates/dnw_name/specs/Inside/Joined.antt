-- What is known of labels that are joined one after another.
use Rattle.std.specs.Prelude.{◌≡◌, ℕ, List, [], length, Result, is_ok}
use Rattle.std.specs.List.{list_all}
use Rattle.dnw_base.specs.Fault.{Fault, Follows}
use Rattle.dnw_name_form.specs.Edits.{made, with_labels}
use Rattle.dnw_name.specs.declared.name.joining.Joining.{Joining}

-- The items so far: how many labels were made, whether all were, and what those give.
pub record HasJoined (joining : Joining) (items : List (Result (List ℕ) Fault)) : Type 0 where
  pub count : joining.made ≡ length (made items)
  pub all : joining.all_made ≡ list_all is_ok items
  pub labels : Follows (with_labels [] (made items)) ⊥ joining.form
