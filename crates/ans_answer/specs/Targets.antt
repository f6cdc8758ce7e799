-- The names that aliases lead to (RFC 1034, section 3.6.2; RFC 6672, section 2.2).
use Rattle.std.specs.Prelude.{ℕ, ◌-◌, ◌&&◌, Bool, nat_eq, nat_le, nat_lt, if◌then◌else◌, List, [], ◌∷◌, ◌++◌, length, take, Option, Some, None}
use Rattle.std.specs.Cmp.Lexicographic.{pointwise}
use Rattle.std.specs.List.{list_all}
use Rattle.dns_names_wire.specs.Words.{RecordValue, data_octets, encoded_size, max_label, max_name, wire}
use Rattle.ans_store.specs.Stored.{leading_labels}

-- a label has 1 to 63 octets (RFC 1035, section 2.3.4)
unfoldable pub is_label : List ℕ → Bool
is_label label = nat_le 1 (length label) && nat_le (length label) max_label

-- these are the labels of a name: together they take at most 255 octets (RFC 1035, section 2.3.4)
unfoldable pub are_labels : List (List ℕ) → Bool
are_labels labels = list_all is_label labels && nat_le (encoded_size labels) max_name

-- the name whose wire form these octets are, if they are one (RFC 1035, section 3.1): so it has no pointer
unfoldable pub name_in : List ℕ → Option (List (List ℕ))
name_in octets =
    let labels = leading_labels max_name octets in
    if are_labels labels && pointwise nat_eq (wire labels) octets then Some labels else None

-- What a name leads to.
pub data Next : Type 0 where
  -- another name
  To : List (List ℕ) → Next
  -- no name: the data of its record are none
  Nowhere : Next
  -- a name past 255 octets, which there is not
  TooLong : Next

-- the name that a CNAME record leads to: its data (RFC 1035, section 3.3.1)
abbrev pub to_target : Option (List (List ℕ)) → Next
to_target None = Nowhere
to_target (Some target) = To target

-- of several, which a name may not own, the first one's
unfoldable pub renamed : List RecordValue → Next
renamed [] = Nowhere
renamed (r ∷ records) = to_target (name_in (data_octets r))

-- A name has at most 255 octets in wire form (RFC 1035, section 2.3.4).
unfoldable pub if_short : List (List ℕ) → Next
if_short name = if nat_lt max_name (encoded_size name) then TooLong else To name

-- a name whose last labels, so many, are replaced by a DNAME record's target (RFC 6672, section 2.2)
abbrev pub replaced : List (List ℕ) → ℕ → Option (List (List ℕ)) → Next
replaced name count None = Nowhere
replaced name count (Some target) = if_short (take (length name - count) name ++ target)

-- the name that a DNAME record leads to, for a name below its owner
unfoldable pub redirected : List (List ℕ) → List RecordValue → Next
redirected name [] = Nowhere
redirected name (r ∷ records) = replaced name (length r.owner) (name_in (data_octets r))
