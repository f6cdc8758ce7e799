-- An address prefix as text (RFC 3123, section 5): `!` if it negates, the number of its family, `:`, an address of the family, `/` and
-- the length of the prefix in bits. And as octets (section 4): the family, the length, a bit that negates and the number of octets of
-- the address, which are those without zeros at the end. Bits of the address after the prefix stay as they are. IPv4 and IPv6 have a
-- text (sections 4.1 and 4.2), and other families have none.
use Rattle.std.specs.Prelude.{ℕ, ◌≡◌, ◌+◌, ◌-◌, ◌%◌, ◌==◌, ◌&&◌, ◌||◌, ◌⊎◌, Bool, true, false, not, nat_le, if◌then◌else◌, List, [], ◌∷◌, ◌++◌, length, drop, replicate, slice_index, slice_range, codes, decimal, Option, Some, None}
use Rattle.std.specs.Int.{w16, from_be_bytes, to_be_bytes}
use Rattle.std.specs.List.{before_first, after_first}
use Rattle.std.specs.Net.Addr.{ipv4_octets, ipv6_segments, segments_of, octets_of}
use Rattle.std.specs.Net.Grammar.{IsIpv4Text, IsIpv6Text}
use Rattle.std.specs.Net.Text.{ipv4_text, ipv6_text}
use Rattle.std.specs.Str.{IsUtf8}
use Rattle.std.specs.declared.net.Ipv4Addr.{Ipv4Addr}
use Rattle.std.specs.declared.net.Ipv6Addr.{Ipv6Addr}
use Rattle.dnw_zone_values.specs.Numbers.{max_u16, IsNumberText}
use Rattle.dnw_zone_values.specs.Octets.{IsOctets}

abbrev pub negation : ℕ
negation = 33

abbrev pub colon : ℕ
colon = 58

abbrev pub slash : ℕ
slash = 47

-- the most octets of an address of IPv4, and of IPv6
abbrev pub address_size : ℕ → ℕ
address_size family = if family == 1 then 4 else 16

-- the longest prefix
abbrev pub longest_prefix : ℕ → ℕ
longest_prefix family = if family == 1 then 32 else 128

abbrev pub has_none : List ℕ → Bool
has_none [] = true
has_none (o ∷ octets) = false

-- octets without the zeros at their end
abbrev pub without_zeros : List ℕ → List ℕ
without_zeros [] = []
without_zeros (o ∷ octets) = if o == 0 && has_none (without_zeros octets) then [] else o ∷ without_zeros octets

-- ---- parsing

abbrev pub is_negation : List ℕ → Bool
is_negation [] = false
is_negation (c ∷ cs) = c == negation

abbrev pub after_negation : List ℕ → List ℕ
after_negation text = if is_negation text then drop 1 text else text

-- a text up to the first of a character, and after it
abbrev pub before : ℕ → List ℕ → List ℕ
before c text = before_first (λ x. x == c) text

abbrev pub after : ℕ → List ℕ → List ℕ
after c text = after_first (λ x. x == c) text

-- the text is an address of this family, of these octets
abbrev pub IsAddressText : ℕ → List ℕ → List ℕ → Type 0
IsAddressText family text own =
    ((family ≡ 1) × (a : Ipv4Addr) × IsUtf8 text × IsIpv4Text text a × (own ≡ ipv4_octets a))
    ⊎ ((family ≡ 2) × (a : Ipv6Addr) × IsUtf8 text × IsIpv6Text text a × (own ≡ octets_of (ipv6_segments a)))

-- the number of octets of an address, and the bit that negates
abbrev pub counted_with : Bool → ℕ → ℕ
counted_with negates n = if negates then 128 + n else n

abbrev pub prefix_wire : ℕ → Bool → ℕ → List ℕ → List ℕ
prefix_wire family negates bits own = to_be_bytes w16 family ++ bits ∷ counted_with negates (length own) ∷ own

-- an address and a length are a prefix of this family
abbrev pub IsPrefixOf : ℕ → Bool → List ℕ → List ℕ → List ℕ → Type 0
IsPrefixOf family negates address size own =
    (bits : ℕ) × (octets : List ℕ) × IsAddressText family address octets × IsNumberText (longest_prefix family) size bits
    × (own ≡ prefix_wire family negates bits (without_zeros octets))

-- the text is a prefix, with or without `!`
abbrev pub IsFamilyText : Bool → List ℕ → List ℕ → Type 0
IsFamilyText negates text own =
    (family : ℕ) × IsNumberText max_u16 (before colon text) family
    × IsPrefixOf family negates (before slash (after colon text)) (after slash (after colon text)) own

-- the text is the prefix of these octets
abbrev pub IsPrefixText : List ℕ → List ℕ → Type 0
IsPrefixText text own = IsFamilyText (is_negation text) (after_negation text) own

-- ---- printing

abbrev pub prefix_family : List ℕ → ℕ
prefix_family own = from_be_bytes w16 (slice_range own 0 2)

abbrev pub negates : List ℕ → Bool
negates own = nat_le 128 (slice_index own 3)

-- the last octet is not zero, if there is one
abbrev pub ends_in_no_zero : List ℕ → Bool
ends_in_no_zero [] = true
ends_in_no_zero (o ∷ octets) = not (slice_index (o ∷ octets) (length octets) == 0)

-- the length of a prefix of a family, and the octets of its address, are not too many, and there are no zeros at the end
abbrev pub is_shown_of : ℕ → ℕ → List ℕ → Bool
is_shown_of family bits own = nat_le bits (longest_prefix family) && (nat_le (length own) (address_size family) && ends_in_no_zero own)

-- the octets are a prefix of IPv4 or IPv6
abbrev pub is_shown : List ℕ → Bool
is_shown own =
    nat_le 4 (length own)
    && ((slice_index own 3 % 128 == length own - 4) && (((prefix_family own == 1) || (prefix_family own == 2)) && is_shown_of (prefix_family own) (slice_index own 2) (drop 4 own)))

-- octets and zeros after them, so many
abbrev pub with_zeros : ℕ → List ℕ → List ℕ
with_zeros size own = own ++ replicate (size - length own) 0

-- the number of a family, and an address
abbrev pub prefix_address_text : ℕ → List ℕ → List ℕ
prefix_address_text family own = if family == 1 then codes "1:" ++ ipv4_text (with_zeros 4 own) else codes "2:" ++ ipv6_text (segments_of (with_zeros 16 own))

abbrev pub negation_text : Bool → List ℕ
negation_text false = []
negation_text true = negation ∷ []

abbrev pub shown_prefix_text : List ℕ → List ℕ
shown_prefix_text own = negation_text (negates own) ++ (prefix_address_text (prefix_family own) (drop 4 own) ++ slash ∷ decimal (slice_index own 2))

-- the text of a prefix, if it has one
abbrev pub prefix_text : List ℕ → Option (List ℕ)
prefix_text own = if is_shown own then Some (shown_prefix_text own) else None

-- What is printed of a prefix is parsed as it, and as no other.
abbrev pub PrefixTextsComeBack : Type 0
PrefixTextsComeBack = (own text : List ℕ) → IsOctets own → prefix_text own ≡ Some text → IsPrefixText text own

-- A text is one prefix at most.
abbrev pub PrefixesAreUnambiguous : Type 0
PrefixesAreUnambiguous = (text own other : List ℕ) → IsPrefixText text own → IsPrefixText text other → own ≡ other
