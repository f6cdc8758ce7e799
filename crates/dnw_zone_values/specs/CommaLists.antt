-- Lists with commas between their items (RFC 9460, appendix A.1): a comma or a backslash of an item is after a backslash.
use Rattle.std.specs.Prelude.{ℕ, Bool, true, false, ◌==◌, ◌||◌, if◌then◌else◌, List, [], ◌∷◌, ◌++◌, flat_map, Option, Some, None, option_map}
use Rattle.dnw_zone_values.specs.Strings.{backslash}

abbrev pub comma : ℕ
comma = 44

abbrev pub is_escaped : ℕ → Bool
is_escaped c = c == comma || c == backslash

-- the items of a text, with the octets of the first one so far, after a backslash or not
abbrev pub items_from : Bool → List ℕ → List ℕ → Option (List (List ℕ))
items_from true item [] = None
items_from false item [] = Some (item ∷ [])
items_from true item (c ∷ cs) = if is_escaped c then items_from false (item ++ c ∷ []) cs else None
items_from false item (c ∷ cs) =
    if c == comma then option_map (λ items. item ∷ items) (items_from false [] cs)
    else if c == backslash then items_from true item cs
    else items_from false (item ++ c ∷ []) cs

abbrev pub items_of : List ℕ → Option (List (List ℕ))
items_of text = items_from false [] text

-- an octet of an item
abbrev pub item_octet : ℕ → List ℕ
item_octet c = if is_escaped c then backslash ∷ c ∷ [] else c ∷ []

abbrev pub item_text : List ℕ → List ℕ
item_text item = flat_map item_octet item
