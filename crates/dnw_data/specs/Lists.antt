-- Lists that data end with: character strings (RFC 1035, section 3.3), the windows of a bitmap of types (RFC 4034, section
-- 4.1.2), service parameters (RFC 9460, section 2.2), address prefixes (RFC 3123, section 4), and names in their wire form
-- (RFC 8005, section 5).
--
-- Windows ascend and have 1 to 32 octets, as RFC 4034 says; that it has writers leave out zeros at the end of a window is
-- not asked of them here. The keys of parameters ascend; what their values are is not looked into.
use Rattle.std.specs.Prelude.{ℕ, zero, suc, ◌+◌, ◌%◌, Bool, true, ◌&&◌, nat_le, nat_lt, if◌then◌else◌, Option, Some, None, List, [], ◌∷◌, length, take, drop, slice_index, slice_range}
use Rattle.std.specs.Option.{option_or}
use Rattle.std.specs.Int.{w16, from_be_bytes}
use Rattle.dnw_base.specs.declared.error.DecodeError.{DecodeError}
use Rattle.dnw_base.specs.declared.error.DecodeError.TheVariants.{InsufficientBytes, NsecBitmapOutOfBounds, SvcParamsOutOfOrder}
use Rattle.dnw_base.specs.Limits.{max_window}
use Rattle.dnw_data.specs.declared.kind.ListKind.{ListKind}
use Rattle.dnw_data.specs.declared.kind.ListKind.TheVariants.{Texts, Types, Params, Prefixes, Names}
use Rattle.dnw_data.specs.WholeNames.{name_size, name_fault}
use Rattle.dnw_data.specs.Prefixes.{prefix_size, family_of, prefix_fault}

-- the number that an item begins with: of a window, the key of a parameter, or the family of a prefix; strings and names have
-- none
abbrev pub tag_of : ListKind → List ℕ → ℕ
tag_of Texts octets = 0
tag_of Types octets = slice_index octets 0
tag_of Params octets = from_be_bytes w16 (slice_range octets 0 2)
tag_of Prefixes octets = family_of octets
tag_of Names octets = 0

-- the number of the octets of an item: in one octet or two, what follows the family of a prefix, or all of a name
abbrev pub count_of : ListKind → List ℕ → ℕ
count_of Texts octets = slice_index octets 0
count_of Types octets = slice_index octets 1
count_of Params octets = from_be_bytes w16 (slice_range octets 2 4)
count_of Prefixes octets = prefix_size octets
count_of Names octets = name_size octets

-- how many octets are before those
abbrev pub head_size : ListKind → ℕ
head_size Texts = 1
head_size Types = 2
head_size Params = 4
head_size Prefixes = 2
head_size Names = 0

abbrev pub item_size : ListKind → List ℕ → ℕ
item_size kind octets = head_size kind + count_of kind octets

-- an item with this number and so many octets may come, if no number below the least may
abbrev pub may_come : ListKind → ℕ → ℕ → ℕ → Bool
may_come Texts least tag count = true
may_come Types least tag count = nat_le least tag && nat_le 1 count && nat_le count max_window
may_come Params least tag count = nat_le least tag
may_come Prefixes least tag count = true
may_come Names least tag count = true

-- why a list fails with an item that may not come
abbrev pub out_of_order : ListKind → DecodeError
out_of_order Texts = InsufficientBytes
out_of_order Types = NsecBitmapOutOfBounds
out_of_order Params = SvcParamsOutOfOrder
out_of_order kind = InsufficientBytes

-- why the octets of one item are none, if they are none
abbrev pub item_fault : ListKind → List ℕ → Option DecodeError
item_fault Prefixes own = prefix_fault own
item_fault Names own = name_fault own
item_fault kind own = None

-- why these octets are no items in order, if they are not, by the first that is wrong: at most n items, and none below the
-- least
abbrev pub fault_within : ℕ → ListKind → ℕ → List ℕ → Option DecodeError
fault_within n kind least [] = None
fault_within zero kind least (first ∷ others) = None
fault_within (suc n) kind least (first ∷ others) =
    let octets = first ∷ others in
    if nat_lt (length octets) (item_size kind octets) then Some InsufficientBytes
    else if may_come kind least (tag_of kind octets) (count_of kind octets)
    then option_or (item_fault kind (take (item_size kind octets) octets)) (fault_within n kind (tag_of kind octets + 1) (drop (item_size kind octets) octets))
    else Some (out_of_order kind)

-- an item has an octet at least
unfoldable pub list_fault : ListKind → List ℕ → Option DecodeError
list_fault kind octets = fault_within (length octets) kind 0 octets

-- A list of items that was checked: the octets that are left of it.
pub record ItemsValue : Type 0 where
  pub kind : ListKind
  pub octets : List ℕ
