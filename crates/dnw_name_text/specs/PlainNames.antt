-- Plain names (RFC 1035, section 5.1): each octet of their labels stands for itself in a text.
use Rattle.std.specs.Prelude.{ℕ, Bool, false, ◌&&◌, not, nat_le, List, [], ◌∷◌}
use Rattle.std.specs.List.{list_all}
use Rattle.dnw_name_text.specs.NameTexts.{is_special}

-- a printable octet that means nothing else in a master file
unfoldable pub is_own_octet : ℕ → Bool
is_own_octet o = not (is_special o) && (nat_le 33 o && nat_le o 126)

-- a label whose octets stand for themselves
abbrev pub is_plain_label : List ℕ → Bool
is_plain_label label = list_all is_own_octet label

-- There are labels, and each is plain. So the text of the name, if it is fully qualified, is their octets and a dot after each.
abbrev pub is_plain_name : List (List ℕ) → Bool
is_plain_name [] = false
is_plain_name (label ∷ labels) = list_all is_plain_label (label ∷ labels)
