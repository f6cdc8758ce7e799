-- The items of a list, one after another.
use Rattle.std.specs.Prelude.{◌≡◌, Option, Some, None, [], drop, slice_range}
use Rattle.dnw_data.specs.declared.lists.Item.{Item}
use Rattle.dnw_data.specs.Lists.{ItemsValue, tag_of, head_size, item_size}

-- The first item is returned, and the others are left; or there is none.
abbrev pub NextItem : ItemsValue → Option Item → ItemsValue → Type 0
NextItem before None after = (before.octets ≡ []) × (after ≡ before)
NextItem before (Some item) after =
    (item.tag ≡ tag_of before.kind before.octets)
    × (item.octets.now ≡ slice_range before.octets (head_size before.kind) (item_size before.kind before.octets))
    × (after ≡ record { kind = before.kind; octets = drop (item_size before.kind before.octets) before.octets })
