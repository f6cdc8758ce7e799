-- What follows from how names are written, whatever the hints are.
use Rattle.std.specs.Prelude.{◌≡◌, ℕ, ◌+◌, ◌<◌, ◌≤◌, ◌⊎◌, List, ◌++◌, length, drop, slice_index}
use Rattle.dnw_base.specs.Names.{AreLabels, encoded_size}
use Rattle.dnw_name_read.specs.Reading.{NameAt}
use Rattle.dnw_message_writer.specs.Standing.{first_item}
use Rattle.dnw_message_writer.specs.CompressedNames.{Compresses}

-- The settled octets of a message are those of a later one, which may have others after them.
pub record KeepsSettled (gap : ℕ) (b later : List ℕ) : Type 0 where
  pub longer : length b ≤ length later
  pub same : (i : ℕ) → first_item ≤ i → i < length b → (i < gap) ⊎ (gap + 2 ≤ i) → slice_index later i ≡ slice_index b i

-- A name that is written at the end of a message is read there, in each later message that keeps the settled octets and the name's
-- own: so neither the header nor the length of the data changes what is read. The slots and the hints do not matter. It follows at
-- most two pointers more than it has labels.
abbrev pub WrittenNamesAreRead : Type 0
WrittenNamesAreRead = (slot : List (List ℕ) → ℕ) (b : List ℕ) (gap : ℕ) (hints : List ℕ) (ls : List (List ℕ)) (octets after later more : List ℕ)
    → AreLabels ls → Compresses slot b gap (length b) hints ls octets after
    → KeepsSettled gap b later → drop (length b) later ≡ octets ++ more
    → (k : ℕ) × NameAt later (length b) ls (length b + length octets) k × (k ≤ length ls + 2)

-- A name takes no more octets than its wire form.
abbrev pub CompressedNamesTakeNoMore : Type 0
CompressedNamesTakeNoMore = (slot : List (List ℕ) → ℕ) (b : List ℕ) (gap at : ℕ) (hints : List ℕ) (ls : List (List ℕ)) (octets after : List ℕ)
    → AreLabels ls → Compresses slot b gap at hints ls octets after → length octets ≤ encoded_size ls
