-- Records as lines of master files (RFC 1035, section 5.1): the owner, a time to live and maybe a class in either order, the
-- type and the data. Parentheses and comments are no part of a line, nor is anything of a line before it.
use Rattle.std.specs.Prelude.{◌≡◌, ◌<◌, ◌≤◌, ◌⊎◌, ℕ, ◌-◌, false, decimal, List, [], ◌∷◌, ◌++◌, length, Option, Some, None}
use Rattle.std.specs.Int.{w16, w32, to_be_bytes}
use Rattle.std.specs.Str.{IsUtf8}
use Rattle.dnw_base.specs.Names.{NameValue, wire}
use Rattle.dnw_base.specs.DnsClasses.{class_code, class_of_text, class_text}
use Rattle.dnw_base.specs.RecordTypes.{type_code, type_text}
use Rattle.dnw_base.specs.declared.dns_class.DNSClass.{DNSClass}
use Rattle.dnw_base.specs.declared.dns_class.DNSClass.TheVariants.{IN}
use Rattle.dnw_base.specs.declared.record_type.RecordType.{RecordType}
use Rattle.dnw_data.specs.Table.{fields_of}
use Rattle.dnw_record.specs.Records.{RecordValue}
use Rattle.dnw_zone_data.specs.declared.error.DataTextError.TheVariants.{Memory as NoMemory}
use Rattle.dnw_zone_record.specs.declared.record_line.LineHead.{LineHead}
use Rattle.dnw_zone_record.specs.declared.record_line.RecordLineError.{RecordLineError}
use Rattle.dnw_zone_record.specs.declared.record_line.RecordLineError.TheVariants.{NoOwner, NoTimeToLive, NoType, Data, TooLong, Memory}
use Rattle.dnw_zone_data.specs.DataTexts.{FailsText, IsTextOf}
use Rattle.dnw_base.specs.Limits.{max_data}
use Rattle.dnw_zone_data.specs.NameReading.{named_at}
use Rattle.dnw_zone_data.specs.NumberForms.{number_forms, IsPeriod}
use Rattle.dnw_name_text.specs.NameTexts.{full_name_text}
use Rattle.dnw_zone_data.specs.TypeLists.{IsTypeWord}
use Rattle.dnw_zone_data.specs.Words.{after_spaces, after_word, is_asterisk, word}

-- ---- printing

-- a text after a space, if there is one
abbrev pub spaced : List ℕ → List ℕ
spaced [] = []
spaced (c ∷ cs) = 32 ∷ c ∷ cs

-- a line of a master file: the owner, the time to live, the class, the type and the data
abbrev pub record_line : RecordValue → List ℕ → List ℕ
record_line r text =
    full_name_text r.owner ++ 32 ∷ decimal r.ttl ++ 32 ∷ class_text r.class ++ 32 ∷ type_text r.record_type ++ spaced text

-- ---- words

-- the next word of a text, and what is after it
abbrev pub next_word : List ℕ → List ℕ
next_word left = word (after_spaces left)

abbrev pub after_next_word : List ℕ → List ℕ
after_next_word left = after_word (after_spaces left)

-- a word is a time to live of so many seconds, or with units
abbrev pub IsTtlWord : List ℕ → ℕ → Type 0
IsTtlWord text n = IsPeriod text n

-- a word is a class
abbrev pub IsClassWord : List ℕ → DNSClass → Type 0
IsClassWord text class = IsUtf8 text × (class_of_text text ≡ Some class) × (is_asterisk text ≡ false)

abbrev pub LacksTtlWord : List ℕ → Type 0
LacksTtlWord left = (n : ℕ) → ¬ (IsTtlWord (next_word left) n)

abbrev pub LacksClassWord : List ℕ → Type 0
LacksClassWord left = (class : DNSClass) → ¬ (IsClassWord (next_word left) class)

abbrev pub LacksTypeWord : List ℕ → Type 0
LacksTypeWord left = (record_type : RecordType) → ¬ (IsTypeWord (next_word left) record_type)

-- ---- what is between the owner and the data

-- a class is next, or it is left out and is IN
abbrev pub HasClassNext : List ℕ → DNSClass → List ℕ → Type 0
HasClassNext left class rest =
    (IsClassWord (next_word left) class × (rest ≡ after_next_word left)) ⊎ (LacksClassWord left × (class ≡ IN) × (rest ≡ left))

-- the class and then the time to live
abbrev pub HasTtlAfterClass : List ℕ → ℕ → DNSClass → List ℕ → Type 0
HasTtlAfterClass left ttl class rest =
    IsClassWord (next_word left) class × IsTtlWord (next_word (after_next_word left)) ttl × (rest ≡ after_next_word (after_next_word left))

-- no class is there, or no time to live after it
abbrev pub LacksTtlAfterClass : List ℕ → Type 0
LacksTtlAfterClass left =
    LacksClassWord left ⊎ ((class : DNSClass) × IsClassWord (next_word left) class × LacksTtlWord (after_next_word left))

-- the time to live and then the class, or the class and then the time to live
abbrev pub HasTtlAndClass : List ℕ → ℕ → DNSClass → List ℕ → Type 0
HasTtlAndClass left ttl class rest =
    (IsTtlWord (next_word left) ttl × HasClassNext (after_next_word left) class rest)
    ⊎ (LacksTtlWord left × HasTtlAfterClass left ttl class rest)

-- no time to live is there: neither first, nor after a class
abbrev pub LacksTtl : List ℕ → Type 0
LacksTtl left = LacksTtlWord left × LacksTtlAfterClass left

-- the time to live, the class and the type, and this is after them
abbrev pub IsHead : List ℕ → LineHead → List ℕ → Type 0
IsHead left head rest =
    (between : List ℕ) × HasTtlAndClass left head.ttl head.class between × IsTypeWord (next_word between) head.record_type
    × (rest ≡ after_next_word between)

-- the offset of the next word, if this is left of a line of this length
abbrev pub next_offset : ℕ → List ℕ → ℕ
next_offset len left = len - length (after_spaces left)

-- the time to live and the class are there, and no type is after them, at this offset of a line of this length
abbrev pub LacksType : ℕ → List ℕ → ℕ → Type 0
LacksType len left offset =
    (ttl : ℕ) × (class : DNSClass) × (between : List ℕ) × HasTtlAndClass left ttl class between × LacksTypeWord between × (offset ≡ next_offset len between)

-- ---- lines

-- the octets of a record (RFC 1035, section 3.2.1)
abbrev pub line_octets : List (List ℕ) → LineHead → List ℕ → List ℕ
line_octets owner head own =
    wire owner ++ to_be_bytes w16 (type_code head.record_type) ++ to_be_bytes w16 (class_code head.class) ++ to_be_bytes w32 head.ttl
    ++ to_be_bytes w16 (length own) ++ own

-- the text is these data of a class and a type, which are not too many
abbrev pub IsDataOf : Option NameValue → DNSClass → RecordType → List ℕ → List ℕ → Type 0
IsDataOf origin class kind text own = IsTextOf origin (number_forms (type_code kind)) (fields_of (class_code class) (type_code kind)) text own × (length own ≤ max_data)

-- After the owner is what makes a record of these octets.
abbrev pub IsAfterOwner : Option NameValue → List (List ℕ) → List ℕ → List ℕ → Type 0
IsAfterOwner origin owner left octets =
    (head : LineHead) × (text : List ℕ) × (own : List ℕ) × IsHead left head text × IsDataOf origin head.class head.record_type text own
    × (octets ≡ line_octets owner head own)

-- A word is the owner, and what is after it makes a record of these octets.
abbrev pub IsRecordOf : Option NameValue → List ℕ → List ℕ → List ℕ → Type 0
IsRecordOf origin first rest octets =
    (owner : List (List ℕ)) × (named_at origin first ≡ Some owner) × IsAfterOwner origin owner rest octets

-- The line is a record of these octets. It begins with the owner.
unfoldable pub IsRecordLine : Option NameValue → List ℕ → List ℕ → Type 0
IsRecordLine origin line octets = IsRecordOf origin (word line) (after_word line) octets

-- why a text is no data of a class and type, at the end of a line of this length: a fault, too many octets, or no memory
abbrev pub FailsDataOf : Option NameValue → DNSClass → RecordType → ℕ → List ℕ → RecordLineError → Type 0
FailsDataOf origin class kind len text (Data NoMemory) = ⊥
FailsDataOf origin class kind len text (Data error) =
    FailsText origin (number_forms (type_code kind)) (fields_of (class_code class) (type_code kind)) len text error
FailsDataOf origin class kind len text (TooLong offset) =
    (own : List ℕ) × IsTextOf origin (number_forms (type_code kind)) (fields_of (class_code class) (type_code kind)) text own × (max_data < length own)
    × (offset ≡ next_offset len text)
FailsDataOf origin class kind len text Memory = Unit {0}
FailsDataOf origin class kind len text error = ⊥

-- the text lacks a time to live, or else a type
abbrev pub FailsHead : ℕ → List ℕ → RecordLineError → Type 0
FailsHead len left error =
    (LacksTtl left × (error ≡ NoTimeToLive (next_offset len left))) ⊎ ((offset : ℕ) × LacksType len left offset × (error ≡ NoType offset))

-- why there is no record after the owner: no time to live or no type, or no data of the type, or no memory
abbrev pub FailsAfterOwner : Option NameValue → ℕ → List ℕ → RecordLineError → Type 0
FailsAfterOwner origin len left error =
    FailsHead len left error
    ⊎ ((head : LineHead) × (text : List ℕ) × IsHead left head text × FailsDataOf origin head.class head.record_type len text error)
    ⊎ (error ≡ Memory)

-- why there is no record in a line of this length: the first word is no name, or what is after it makes none
abbrev pub FailsRecordOf : Option NameValue → ℕ → List ℕ → List ℕ → RecordLineError → Type 0
FailsRecordOf origin len first rest error =
    ((named_at origin first ≡ None) × (error ≡ NoOwner))
    ⊎ ((owner : List (List ℕ)) × (named_at origin first ≡ Some owner) × FailsAfterOwner origin len rest error)

unfoldable pub FailsRecordLine : Option NameValue → List ℕ → RecordLineError → Type 0
FailsRecordLine origin line error = FailsRecordOf origin (length line) (word line) (after_word line) error
