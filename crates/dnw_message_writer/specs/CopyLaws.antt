-- What a message that was written again holds. It is the clause of a public function, and so proved.
use Rattle.std.specs.Prelude.{◌≡◌, ◌≤◌, ◌⊎◌, ◌||◌, ℕ, Bool, true, false, if◌then◌else◌, List, [], ◌∷◌, ◌++◌, length}
use Rattle.std.specs.List.{AllByRecursion, AllZip}
use Rattle.dnw_base.specs.DnsClasses.{class_code}
use Rattle.dnw_base.specs.RecordTypes.{type_code}
use Rattle.dnw_data.specs.Table.{fields_of}
use Rattle.dnw_record.specs.DataCopies.{Copies, data_start, record_kinds}
use Rattle.dnw_record.specs.Records.{RecordValue}
use Rattle.dnw_message_read.specs.Headers.{flags_of}
use Rattle.dnw_message_read.specs.Messages.{MessageValue, QueryValue}
use Rattle.dnw_message_writer.specs.Contents.{AddedItems, AddedQuestion, AddedRecord, HoldsItems, cut_flags}
use Rattle.dnw_message_writer.specs.Copying.{CopiesMessage, held_in, sets_of}
use Rattle.dnw_message_writer.specs.Data.{AreOfData}
use Rattle.dnw_message_writer.specs.Needs.{are_the_same, halves, has_half, has_required, is_uncut, purpose_of}
use Rattle.dnw_message_writer.specs.declared.needs.Purpose.{Purpose}
use Rattle.dnw_message_writer.specs.declared.section.Section.{Section}
use Rattle.dnw_message_writer.specs.declared.section.Section.TheVariants.{Additionals, Answers, Authorities}
use Rattle.dnw_message_writer.specs.declared.state.WriterState.{WriterState}

-- The question is that of a message.
abbrev pub IsCopiedQuestion : QueryValue → AddedQuestion → Type 0
IsCopiedQuestion x q = (q.name ≡ x.name) × (q.query_type ≡ type_code x.query_type) × (q.class ≡ class_code x.query_class)

-- The record is that of a message: its owner, its codes, its time to live, and the pieces of its data, with every name whole.
abbrev pub IsCopiedRecord : RecordValue → AddedRecord → Type 0
IsCopiedRecord x r =
    (r.owner ≡ x.owner) × (r.record_type ≡ type_code x.record_type) × (r.class ≡ class_code x.class) × (r.ttl ≡ x.ttl)
    × (own : List ℕ) × Copies (record_kinds x) (data_start x) own × AreOfData (fields_of r.class r.record_type own) own r.pieces

-- The records are the first of those of a section, and these are left out.
pub record AreTheFirst (xs : List RecordValue) (rs : List AddedRecord) : Type 0 where
  pub copied : List RecordValue
  pub left : List RecordValue
  pub are : xs ≡ copied ++ left
  pub copies : AllZip IsCopiedRecord copied rs

-- Of a section something is missing.
abbrev pub is_missing_of : Section → Purpose → List RecordValue → List RecordValue → Bool
is_missing_of s p copied left = has_required s p false left || has_half (length copied) copied left

-- The items are those of a message: all questions, the first records of each section, and all that come last. Something is missing
-- exactly if a record is left out that the message has to have, or half of a set, and of a message that is never cut none is left out.
pub record AreItemsOf (x : MessageValue) (c : AddedItems) (missing : Bool) : Type 0 where
  pub queries : AllZip IsCopiedQuestion x.queries c.queries
  pub answers : AreTheFirst x.answers c.answers
  pub authorities : AreTheFirst x.authorities c.authorities
  pub others : List AddedRecord
  pub additionals : AreTheFirst (sets_of Additionals x.additionals) others
  pub last : List AddedRecord
  pub held : AllZip IsCopiedRecord (held_in x.additionals) last
  pub additionals_are : c.additionals ≡ others ++ last
  pub missing_is : missing ≡ (is_missing_of Answers (purpose_of x) answers.copied answers.left
      || (is_missing_of Authorities (purpose_of x) authorities.copied authorities.left
      || is_missing_of Additionals (purpose_of x) additionals.copied additionals.left))
  pub uncut : is_uncut (purpose_of x) ≡ true → (answers.left ≡ []) × (authorities.left ≡ []) × (additionals.left ≡ [])

-- The record is among these, too.
abbrev pub IsAmong : List RecordValue → RecordValue → Type 0
IsAmong [] y = ⊥
IsAmong (x ∷ there) y = (are_the_same x y ≡ true) ⊎ IsAmong there y

-- None of these is of its set, or signs it.
abbrev pub AreNotHalved : List RecordValue → RecordValue → Type 0
AreNotHalved there y = AllByRecursion (λ x. halves x y ≡ false) there

-- Each record that is left out is there once more, or it is of a set of which none is there.
abbrev pub HasWholeSets : List RecordValue → List RecordValue → Type 0
HasWholeSets there left = AllByRecursion (λ y. IsAmong there y ⊎ AreNotHalved there y) left

-- So it is in each section if nothing is missing.
abbrev pub SetsAreWhole : Type 0
SetsAreWhole = (x : MessageValue) (c : AddedItems) (items : AreItemsOf x c false)
    → HasWholeSets items.answers.copied items.answers.left
    × HasWholeSets items.authorities.copied items.authorities.left
    × HasWholeSets items.additionals.copied items.additionals.left

-- A message that was written again holds items of the other, with its id and its flags, and with TC if a record is missing. It has at
-- most so many octets.
abbrev pub CopiesHold : Type 0
CopiesHold = (x : MessageValue) (max_size : ℕ) (old new : List ℕ) (w : WriterState) → 12 ≤ length old → CopiesMessage x max_size old w new
    → (missing : Bool) × (c : AddedItems) × AreItemsOf x c missing × (w.end ≤ max_size)
    × HoldsItems x.header.metadata.id (if missing then cut_flags (flags_of x.header.metadata) else flags_of x.header.metadata) c w new
