-- Names that hosts have (RFC 952; RFC 1123, section 2.1).
use Rattle.std.specs.Prelude.{ℕ, ◌==◌, ◌&&◌, ◌||◌, Bool, true, false, not, if◌then◌else◌, List, [], ◌∷◌, Option, Some, None}
use Rattle.std.specs.Char.{is_ascii_alphanumeric, is_ascii_digit}
use Rattle.std.specs.List.{list_all}

-- a letter, a digit or a hyphen
abbrev pub is_host_octet : ℕ → Bool
is_host_octet octet = is_ascii_alphanumeric octet || octet == 45

-- the octets after this one, which are such ones; the last of all is no hyphen
abbrev pub ends_as_host : ℕ → List ℕ → Bool
ends_as_host last [] = not (last == 45)
ends_as_host last (octet ∷ others) = is_host_octet octet && ends_as_host octet others

abbrev pub has_host_octets : List ℕ → Bool
has_host_octets = ends_as_host 45

-- It begins and ends with a letter or a digit.
abbrev pub is_host_label : List ℕ → Bool
is_host_label [] = false
is_host_label (octet ∷ others) = not (octet == 45) && has_host_octets (octet ∷ others)

abbrev pub are_host_labels : List (List ℕ) → Bool
are_host_labels [] = true
are_host_labels (label ∷ labels) = is_host_label label && are_host_labels labels

abbrev pub is_star : List ℕ → Bool
is_star (octet ∷ []) = octet == 42
is_star label = false

-- The name of a host, or a wildcard of such names (RFC 4592).
abbrev pub is_host_name : List (List ℕ) → Bool
is_host_name [] = true
is_host_name (label ∷ labels) = (is_star label || is_host_label label) && are_host_labels labels

-- a name that begins with the label `*` (RFC 4592, section 2.1.1)
abbrev pub is_wildcard : List (List ℕ) → Bool
is_wildcard [] = false
is_wildcard (label ∷ labels) = is_star label

-- the labels after the first one, if that has digits alone
abbrev pub after_number : List (List ℕ) → Option (List (List ℕ))
after_number [] = None
after_number (label ∷ labels) = if list_all is_ascii_digit label then Some labels else None

abbrev pub then_number : Option (List (List ℕ)) → Option (List (List ℕ))
then_number None = None
then_number (Some name) = after_number name

-- The labels after the text of an IPv4 address, which is four of digits alone.
abbrev pub after_address : List (List ℕ) → Option (List (List ℕ))
after_address name = then_number (then_number (then_number (after_number name)))
