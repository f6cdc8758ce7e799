-- What is before the octets of an item, as a struct has it.
use Rattle.std.specs.Prelude.{◌≡◌, ℕ, List}
use Rattle.dnw_data.specs.declared.kind.ListKind.{ListKind}
use Rattle.dnw_data.specs.declared.lists.Head.{Head}
use Rattle.dnw_data.specs.Lists.{tag_of, count_of, item_size}

abbrev pub IsItemHead : ListKind → List ℕ → Head → Type 0
IsItemHead kind octets head =
    (head.tag ≡ tag_of kind octets) × (head.count ≡ count_of kind octets) × (head.size ≡ item_size kind octets)
