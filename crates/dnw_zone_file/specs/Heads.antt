-- What a record of a zone file has between its owner and its data (RFC 1035, section 5.1): a time to live and a class, in either
-- order, of which each may be left out, and the type.
use Rattle.std.specs.Prelude.{◌≡◌, ◌≢◌, ◌≤◌, ◌||◌, ◌==◌, ◌&&◌, nat_le, not, ℕ, ◌-◌, Bool, true, false, List, [], length, Option, Some, None}
use Rattle.std.specs.Char.{is_ascii_digit}
use Rattle.std.specs.List.{list_all}
use Rattle.dnw_base.specs.DnsClasses.{class_code}
use Rattle.dnw_base.specs.RecordTypes.{type_code}
use Rattle.dnw_base.specs.declared.record_type.RecordType.{RecordType}
use Rattle.dnw_base.specs.declared.dns_class.DNSClass.{DNSClass}
use Rattle.dnw_zone_data.specs.Words.{after_spaces}
use Rattle.dnw_zone_data.specs.TypeLists.{IsTypeWord}
use Rattle.dnw_zone_record.specs.RecordLines.{after_next_word, IsClassWord, IsTtlWord, next_word}
use Rattle.dnw_zone_file.specs.declared.error.ZoneError.{ZoneError}
use Rattle.dnw_zone_file.specs.declared.error.ZoneError.TheVariants.{Wrong}
use Rattle.dnw_zone_file.specs.declared.error.ZoneRule.{ZoneRule}
use Rattle.dnw_zone_file.specs.declared.error.ZoneRule.TheVariants.{NoType, NoTime, OtherType, TimeTooLarge, UnknownType}
use Rattle.dnw_zone_file.specs.declared.head.Head.{Head}

-- an error at the next word of what is left of an entry of this length
abbrev pub wrong_at : ℕ → List ℕ → ZoneRule → ZoneError
wrong_at len left rule = Wrong (len - length (after_spaces left)) rule

-- ---- words

-- the greatest time to live (RFC 2181, section 8)
abbrev pub max_zone_ttl : ℕ
max_zone_ttl = 2147483647

abbrev pub IsZoneTtl : List ℕ → ℕ → Type 0
IsZoneTtl word ttl = IsTtlWord word ttl × (ttl ≤ max_zone_ttl)

abbrev pub LacksZoneTtl : List ℕ → Type 0
LacksZoneTtl left = (ttl : ℕ) → ¬ (IsZoneTtl (next_word left) ttl)

-- NONE and ANY are no classes of records (RFC 6895, section 3.2).
abbrev pub is_zone_class : DNSClass → Bool
is_zone_class class = not (class_code class == 254 || class_code class == 255)

abbrev pub IsZoneClass : List ℕ → DNSClass → Type 0
IsZoneClass word class = IsClassWord word class × (is_zone_class class ≡ true)

abbrev pub LacksZoneClass : List ℕ → Type 0
LacksZoneClass left = (class : DNSClass) → ¬ (IsZoneClass (next_word left) class)

-- OPT and the types of questions and of messages, 128 to 255, are no types of records of a zone (RFC 6895, section 3.1).
abbrev pub is_zone_type : RecordType → Bool
is_zone_type kind = not (type_code kind == 41 || (nat_le 128 (type_code kind) && nat_le (type_code kind) 255))

abbrev pub IsZoneType : List ℕ → RecordType → Type 0
IsZoneType word kind = IsTypeWord word kind × (is_zone_type kind ≡ true)

-- The word is digits, but no time to live.
abbrev pub IsLargeTime : List ℕ → Type 0
IsLargeTime word = (word ≢ []) × (list_all is_ascii_digit word ≡ true) × ((ttl : ℕ) → ¬ (IsZoneTtl word ttl))

-- which rule a word is against that is no time to live
abbrev pub IsTimeFault : List ℕ → ZoneRule → Type 0
IsTimeFault word TimeTooLarge = IsLargeTime word
IsTimeFault word NoTime = ¬ (IsLargeTime word)
IsTimeFault word other = ⊥

-- which rule a word is against that is no type of a record of a zone
abbrev pub IsTypeFault : List ℕ → ZoneRule → Type 0
IsTypeFault word NoType = word ≡ []
IsTypeFault word OtherType = (kind : RecordType) × IsTypeWord word kind × (is_zone_type kind ≡ false)
IsTypeFault word TimeTooLarge = IsLargeTime word
IsTypeFault word UnknownType = (word ≢ []) × (¬ (IsLargeTime word)) × ((kind : RecordType) → ¬ (IsTypeWord word kind))
IsTypeFault word other = ⊥

-- ---- the head

-- The next word is a time to live, or there is none.
abbrev pub IsTtlNext : List ℕ → Option ℕ → List ℕ → Type 0
IsTtlNext left (Some ttl) rest = IsZoneTtl (next_word left) ttl × (rest ≡ after_next_word left)
IsTtlNext left None rest = LacksZoneTtl left × (rest ≡ left)

-- The next word is a class, or there is none.
abbrev pub IsClassNext : List ℕ → Option DNSClass → List ℕ → Type 0
IsClassNext left (Some class) rest = IsZoneClass (next_word left) class × (rest ≡ after_next_word left)
IsClassNext left None rest = LacksZoneClass left × (rest ≡ left)

-- Without a time to live before the class, it may be after it.
abbrev pub IsTtlAfter : Option ℕ → List ℕ → Option ℕ → List ℕ → Type 0
IsTtlAfter (Some first) left ttl rest = (ttl ≡ Some first) × (rest ≡ left)
IsTtlAfter None left ttl rest = IsTtlNext left ttl rest

-- the time to live and the class, in either order
abbrev pub IsTtlAndClass : List ℕ → Option ℕ → Option DNSClass → List ℕ → Type 0
IsTtlAndClass left ttl class rest =
    (first : Option ℕ) × (between : List ℕ) × (after : List ℕ) × IsTtlNext left first between × IsClassNext between class after
    × IsTtlAfter first after ttl rest

-- the time to live, the class and the type, and this is after them
abbrev pub IsZoneHead : List ℕ → Head → List ℕ → Type 0
IsZoneHead left head rest =
    (between : List ℕ) × IsTtlAndClass left head.ttl head.class between × IsZoneType (next_word between) head.record_type
    × (rest ≡ after_next_word between)

-- No type of a zone is after them, in an entry of this length.
abbrev pub LacksHead : ℕ → List ℕ → ZoneError → Type 0
LacksHead len left error =
    (ttl : Option ℕ) × (class : Option DNSClass) × (between : List ℕ) × (rule : ZoneRule) × IsTtlAndClass left ttl class between
    × IsTypeFault (next_word between) rule × (error ≡ wrong_at len between rule)
