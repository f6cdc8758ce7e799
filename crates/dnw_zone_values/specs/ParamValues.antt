-- Values that are lists (RFC 9460, sections 7.1, 7.3 and 8): keys, identifiers of protocols and addresses.
use Rattle.std.specs.Prelude.{ℕ, zero, suc, Bool, true, false, ◌≡◌, ◌≤◌, ◌+◌, ◌&&◌, nat_le, if◌then◌else◌, List, [], ◌∷◌, ◌++◌, length, take, drop, slice_index, Option, Some, None, option_map}
use Rattle.std.specs.Int.{w16, from_be_bytes, to_be_bytes}
use Rattle.std.specs.Net.Addr.{ipv4_octets, ipv6_segments, segments_of, octets_of}
use Rattle.std.specs.Net.Grammar.{IsIpv4Text, IsIpv6Text}
use Rattle.std.specs.Net.Text.{ipv4_text, ipv6_text}
use Rattle.std.specs.declared.net.Ipv4Addr.{Ipv4Addr}
use Rattle.std.specs.declared.net.Ipv6Addr.{Ipv6Addr}
use Rattle.std.specs.Str.{IsUtf8}
use Rattle.dnw_zone_values.specs.declared.lists.ListValue.{ListValue}
use Rattle.dnw_zone_values.specs.declared.lists.ListValue.TheVariants.{Keys, Protocols, Ipv4, Ipv6}
use Rattle.dnw_zone_values.specs.ParamKeys.{IsKey, key_text}
use Rattle.dnw_zone_values.specs.CommaLists.{comma, items_of, item_text}

-- ---- printing

-- how many octets the first item has
abbrev pub octets_of_item : ListValue → List ℕ → ℕ
octets_of_item Keys octets = 2
octets_of_item Protocols octets = 1 + slice_index octets 0
octets_of_item Ipv4 octets = 4
octets_of_item Ipv6 octets = 16

-- they are all there, and an identifier is not empty
abbrev pub is_item : ListValue → List ℕ → Bool
is_item list octets = nat_le (octets_of_item list octets) (length octets) && nat_le 2 (octets_of_item list octets)

-- the text of an item
abbrev pub text_of_item : ListValue → List ℕ → List ℕ
text_of_item Keys own = key_text (from_be_bytes w16 own)
text_of_item Protocols own = item_text (drop 1 own)
text_of_item Ipv4 own = ipv4_text own
text_of_item Ipv6 own = ipv6_text (segments_of own)

-- the texts of at most n items, each after a comma, if the octets are items
abbrev pub items_within : ℕ → ListValue → List ℕ → Option (List ℕ)
items_within n list [] = Some []
items_within zero list (o ∷ octets) = None
items_within (suc n) list (o ∷ octets) =
    let all = o ∷ octets in
    if is_item list all
    then option_map (λ others. comma ∷ text_of_item list (take (octets_of_item list all) all) ++ others) (items_within n list (drop (octets_of_item list all) all))
    else None

-- a text without the comma that it begins with
abbrev pub after_comma : Option (List ℕ) → Option (List ℕ)
after_comma (Some (c ∷ text)) = Some text
after_comma text = None

-- the items of octets with commas between them, if there is one or more
abbrev pub list_text : ListValue → List ℕ → Option (List ℕ)
list_text list octets = after_comma (items_within (length octets) list octets)

-- keys ascend, and none is below the least
abbrev pub is_ascending : ℕ → List ℕ → Bool
is_ascending least [] = true
is_ascending least (a ∷ []) = false
is_ascending least (a ∷ b ∷ octets) =
    nat_le least (from_be_bytes w16 (a ∷ b ∷ [])) && is_ascending (from_be_bytes w16 (a ∷ b ∷ []) + 1) octets

-- ---- parsing

-- an item is these octets; `mandatory` is not among the mandatory keys (RFC 9460, section 8)
abbrev pub IsItem : ListValue → List ℕ → List ℕ → Type 0
IsItem Keys item own = (key : ℕ) × IsUtf8 item × IsKey item key × (1 ≤ key) × (own ≡ to_be_bytes w16 key)
IsItem Protocols item own = (1 ≤ length item) × (length item ≤ 255) × (own ≡ length item ∷ item)
IsItem Ipv4 item own = (a : Ipv4Addr) × IsUtf8 item × IsIpv4Text item a × (own ≡ ipv4_octets a)
IsItem Ipv6 item own = (a : Ipv6Addr) × IsUtf8 item × IsIpv6Text item a × (own ≡ octets_of (ipv6_segments a))

-- items are these octets, one after another
abbrev pub AreItems : ListValue → List (List ℕ) → List ℕ → Type 0
AreItems list [] own = own ≡ []
AreItems list (item ∷ items) own =
    (first : List ℕ) × (others : List ℕ) × IsItem list item first × AreItems list items others × (own ≡ first ++ others)

-- the text is the items of these octets
abbrev pub IsListText : ListValue → List ℕ → List ℕ → Type 0
IsListText list text own = (items : List (List ℕ)) × (items_of text ≡ Some items) × AreItems list items own
