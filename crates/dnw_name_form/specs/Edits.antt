-- Names made of labels and of other names. They fail at the first label, from the left, that brings the encoded size
-- past 255 (RFC 1035, section 2.3.4).
use Rattle.std.specs.Prelude.{ℕ, ◌-◌, ◌==◌, true, List, [], ◌∷◌, ◌++◌, length, drop, nat_lt, if◌then◌else◌, Result, Ok, Err, is_ok}
use Rattle.std.specs.List.{list_all}
use Rattle.dnw_base.specs.Fault.{Fault, NameTooLong, UnconvertedLabels, ◌>>=◌}
use Rattle.dnw_base.specs.Limits.{max_name}
use Rattle.dnw_base.specs.Labels.{wildcard}
use Rattle.dnw_base.specs.Names.{NameValue, encoded_size}

abbrev pub with_label : List (List ℕ) → List ℕ → Result (List (List ℕ)) Fault
with_label ls l =
    if nat_lt max_name (encoded_size (ls ++ l ∷ [])) then Err (NameTooLong (encoded_size (ls ++ l ∷ [])))
    else Ok (ls ++ l ∷ [])

abbrev pub with_labels : List (List ℕ) → List (List ℕ) → Result (List (List ℕ)) Fault
with_labels ls [] = Ok ls
with_labels ls (l ∷ more) = with_label ls l >>= (λ longer. with_labels longer more)

-- the label at the end, and the flag unchanged
abbrev pub append_label : NameValue → Result (List ℕ) Fault → Result NameValue Fault
append_label n label = do
  l ← label
  ls ← with_label n.labels l
  Ok (record { is_fqdn = n.is_fqdn; labels = ls })

-- the labels of both, and the second one's flag
abbrev pub append_name : NameValue → NameValue → Result NameValue Fault
append_name n other = do
  ls ← with_labels n.labels other.labels
  Ok (record { is_fqdn = other.is_fqdn; labels = ls })

-- the same, fully qualified
abbrev pub append_domain : NameValue → NameValue → Result NameValue Fault
append_domain n domain = do
  ls ← with_labels n.labels domain.labels
  Ok (record { is_fqdn = true; labels = ls })

-- the label at the front, and the flag unchanged
abbrev pub prepend_label : NameValue → Result (List ℕ) Fault → Result NameValue Fault
prepend_label n label = do
  l ← label
  ls ← with_labels [] (l ∷ n.labels)
  Ok (record { is_fqdn = n.is_fqdn; labels = ls })

-- the last labels, fully qualified; the name itself if it has fewer
abbrev pub trim_to : NameValue → ℕ → NameValue
trim_to n count =
    if nat_lt (length n.labels) count then n
    else record { is_fqdn = true; labels = drop (length n.labels - count) n.labels }

-- all labels but the first, fully qualified; the name itself if it has none
abbrev pub base_name : NameValue → NameValue
base_name n =
    if length n.labels == 0 then n
    else record { is_fqdn = true; labels = drop 1 n.labels }

-- `*` in place of the first label (RFC 4592, section 2.1.1); the root if there is none
abbrev pub into_wildcard : NameValue → NameValue
into_wildcard n =
    if length n.labels == 0 then record { is_fqdn = true; labels = [] }
    else record { is_fqdn = n.is_fqdn; labels = wildcard ∷ drop 1 n.labels }

-- the labels that could be made
abbrev pub made : List (Result (List ℕ) Fault) → List (List ℕ)
made [] = []
made (Ok l ∷ items) = l ∷ made items
made (Err fault ∷ items) = made items

-- The labels of all items. That there are too many is reported first, then that one could not be made, then the first
-- label that does not fit.
abbrev pub joined : List (Result (List ℕ) Fault) → Result (List (List ℕ)) Fault
joined items =
    if nat_lt max_name (length (made items)) then Err (NameTooLong (length (made items)))
    else if list_all is_ok items then with_labels [] (made items)
    else Err UnconvertedLabels

-- the labels of all items, fully qualified
abbrev pub from_labels : List (Result (List ℕ) Fault) → Result NameValue Fault
from_labels items = do
  ls ← joined items
  Ok (record { is_fqdn = true; labels = ls })
