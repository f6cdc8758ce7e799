-- Sections of a message, and where the header has their counts (RFC 1035, sections 4.1 and 4.1.1).
use Rattle.std.specs.Prelude.{ℕ, ◌+◌, ◌*◌}
use Rattle.dnw_message_writer.specs.declared.section.Section.{Section}
use Rattle.dnw_message_writer.specs.declared.section.Section.TheVariants.{Queries, Answers, Authorities, Additionals}

-- how many sections are before this one
abbrev pub rank : Section → ℕ
rank Queries = 0
rank Answers = 1
rank Authorities = 2
rank Additionals = 3

-- the offset of its count
abbrev pub offset_of_count : Section → ℕ
offset_of_count s = 4 + 2 * rank s
