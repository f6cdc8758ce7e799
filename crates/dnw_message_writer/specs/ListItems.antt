-- The octets of an item of a list: one for its section, and then the item as it stands in a message, with its names whole (RFC 1035,
-- sections 4.1.2 and 4.1.3).
use Rattle.std.specs.Prelude.{ℕ, ◌+◌, List, ◌∷◌, ◌++◌, length}
use Rattle.std.specs.Int.{w16, w32, to_be_bytes}
use Rattle.dnw_base.specs.Names.{wire}
use Rattle.dnw_message_writer.specs.Items.{question_fields}
use Rattle.dnw_message_writer.specs.Lists.{question_octet}
use Rattle.dnw_message_writer.specs.Sections.{rank}
use Rattle.dnw_message_writer.specs.declared.list.push.Need.{Need}
use Rattle.dnw_message_writer.specs.declared.list.push.Need.TheVariants.{Optional, Required, Usual}
use Rattle.dnw_message_writer.specs.declared.section.Section.{Section}

-- what the octet before a record has besides its section, by the word of the caller
abbrev pub need_octet : Need → ℕ
need_octet Usual = 0
need_octet Required = 32
need_octet Optional = 128

-- a question
abbrev pub question_item : List (List ℕ) → ℕ → ℕ → List ℕ
question_item name query_type class = question_octet ∷ (wire name ++ question_fields query_type class)

-- the fields of a record between its owner and its data, of which there are so many octets
abbrev pub head_of_record : ℕ → ℕ → ℕ → ℕ → List ℕ
head_of_record record_type class ttl size =
    to_be_bytes w16 record_type ++ (to_be_bytes w16 class ++ (to_be_bytes w32 ttl ++ to_be_bytes w16 size))

-- a record of a section
abbrev pub record_item : Section → Need → List (List ℕ) → ℕ → ℕ → ℕ → List ℕ → List ℕ
record_item s need owner record_type class ttl own =
    (rank s + need_octet need) ∷ (wire owner ++ (head_of_record record_type class ttl (length own) ++ own))
