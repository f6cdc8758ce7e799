-- What follows from the definition of sort keys. Each is the clause of a public function, and so proved.
use Rattle.std.specs.Prelude.{◌≡◌, ◌↔◌, ◌≤◌, ℕ, List, ◌∷◌, ◌++◌, length}
use Rattle.std.specs.Ordering.{ordering_then}
use Rattle.dnw_base.specs.Names.{AreLabels, NameValue, lower}
use Rattle.dnw_name_form.specs.LabelOrder.{octets_cmp}
use Rattle.dnw_name_order.specs.Order.{labels_cmp, name_cmp, IsZoneOf}
use Rattle.dnw_name_order.specs.SortKeys.{max_sort_key, sort_key}

-- The plain order of keys is the canonical order of labels.
abbrev pub KeysCompare : Type 0
KeysCompare = (xs ys : List (List ℕ)) → octets_cmp (sort_key xs) (sort_key ys) ≡ labels_cmp xs ys

-- After a key an octet 0 ends it before any longer one. So names decide, and then what is after them.
abbrev pub EndedKeysCompare : Type 0
EndedKeysCompare = (xs ys : List (List ℕ)) (us vs : List ℕ) → AreLabels xs → AreLabels ys
    → octets_cmp (sort_key xs ++ (0 ∷ us)) (sort_key ys ++ (0 ∷ vs)) ≡ ordering_then (labels_cmp xs ys) (octets_cmp us vs)

-- It is the order of names that are all fully qualified, or all relative.
abbrev pub KeysCompareNames : Type 0
KeysCompareNames = (x y : NameValue) → x.is_fqdn ≡ y.is_fqdn → octets_cmp (sort_key x.labels) (sort_key y.labels) ≡ name_cmp x y

-- Keys are equal exactly if the labels are, but for ASCII case.
abbrev pub KeysAreEqual : Type 0
KeysAreEqual = (xs ys : List (List ℕ)) → (sort_key xs ≡ sort_key ys) ↔ (lower xs ≡ lower ys)

-- A key begins with the key of a zone exactly if its name is within the zone.
abbrev pub ZonesBegin : Type 0
ZonesBegin = (zone ls : List (List ℕ)) → ((rest : List ℕ) × (sort_key ls ≡ sort_key zone ++ rest)) ↔ IsZoneOf zone ls

-- Keys of names are short.
abbrev pub KeysAreShort : Type 0
KeysAreShort = (ls : List (List ℕ)) → AreLabels ls → length (sort_key ls) ≤ max_sort_key
