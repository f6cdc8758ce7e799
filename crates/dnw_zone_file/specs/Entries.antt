-- What an entry of a zone file is, after the entries before it (RFC 1035, section 5.1; RFC 2308, section 4). It is given by its line,
-- in which words are parted by spaces; comments and parentheses are spaces there. An entry that begins with white space, and with no
-- parenthesis, has the owner of the record before it.
use Rattle.std.specs.Prelude.{◌≡◌, ◌≢◌, ◌⊎◌, ◌-◌, ◌==◌, Bool, false, ℕ, List, [], ◌∷◌, length, if◌then◌else◌, Option, Some, None, Ok}
use Rattle.dnw_base.specs.Names.{NameValue}
use Rattle.dnw_base.specs.declared.dns_class.DNSClass.{DNSClass}
use Rattle.dnw_base.specs.declared.record_type.RecordType.{RecordType}
use Rattle.dnw_name_text.specs.NameReading.{name_of_text}
use Rattle.dnw_zone_data.specs.NameReading.{named_at}
use Rattle.dnw_zone_data.specs.Words.{after_spaces}
use Rattle.dnw_zone_record.specs.RecordLines.{after_next_word, FailsDataOf, IsDataOf, next_word}
use Rattle.dnw_zone_record.specs.declared.record_line.RecordLineError.{RecordLineError}
use Rattle.dnw_zone_file.specs.declared.context.Context.{Context}
use Rattle.dnw_zone_file.specs.declared.directive.Directive.{Directive}
use Rattle.dnw_zone_file.specs.declared.directive.Directive.TheVariants as directives
use Rattle.dnw_zone_file.specs.declared.entry.Entry.{Entry}
use Rattle.dnw_zone_file.specs.declared.entry.Entry.TheVariants.{Nothing, Record as RecordEntry, Include as IncludeEntry}
use Rattle.dnw_zone_file.specs.declared.entry.Include.{Include}
use Rattle.dnw_zone_file.specs.declared.entry.LineKind.{LineKind}
use Rattle.dnw_zone_file.specs.declared.entry.LineKind.TheVariants.{Blank, OwnerBefore, Dollar, OwnerFirst}
use Rattle.dnw_zone_file.specs.declared.entry.ZoneRecord.{ZoneRecord}
use Rattle.dnw_zone_file.specs.declared.error.ZoneError.{ZoneError}
use Rattle.dnw_zone_file.specs.declared.error.ZoneError.TheVariants.{Data, Memory}
use Rattle.dnw_zone_file.specs.declared.error.ZoneRule.{ZoneRule}
use Rattle.dnw_zone_file.specs.declared.error.ZoneRule.TheVariants.{NoOwner, BadOwner, NoTimeToLive, UnknownDirective, Generate, NoName, NoFile, WordsLeft}
use Rattle.dnw_zone_file.specs.declared.head.Head.{Head}
use Rattle.dnw_zone_file.specs.Contexts.{class_after, minimum_after, record_ttl, with_minimum, with_origin, with_record, with_ttl}
use Rattle.dnw_zone_file.specs.Directives.{IsDirective}
use Rattle.dnw_zone_file.specs.Heads.{IsTimeFault, IsZoneHead, IsZoneTtl, LacksHead, LacksZoneTtl, wrong_at}

abbrev pub begins_with : ℕ → List ℕ → Bool
begins_with octet [] = false
begins_with octet (c ∷ cs) = c == octet

-- no word is left
abbrev pub IsEnd : List ℕ → Type 0
IsEnd left = after_spaces left ≡ []

-- ---- records

-- the owner that a word is, completed by the origin; a quoted string is none
abbrev pub owner_at : NameValue → List ℕ → Option (List (List ℕ))
owner_at origin first = if begins_with 34 first then None else named_at (Some origin) first

-- A text at the end of an entry of this length is no data of the class and type.
abbrev pub FailsData : NameValue → DNSClass → RecordType → ℕ → List ℕ → ZoneError → Type 0
FailsData origin class kind len text error = (why : RecordLineError) × FailsDataOf (Some origin) class kind len text why × (error ≡ Data why)

-- what is after the owner: the head and the record
abbrev pub IsRecordData : Context → List ℕ → Head → ZoneRecord → Type 0
IsRecordData before left head r =
    (text : List ℕ) × IsZoneHead left head text × (record_ttl before head r.wire.items ≡ Some r.ttl) × (r.class ≡ class_after before head.class)
    × (r.record_type ≡ head.record_type) × IsDataOf (Some before.origin) r.class r.record_type text r.wire.items

-- The entry is a record of this owner, which is kept for later entries, with a time to live and a class of its own.
abbrev pub IsZoneRecord : Context → List (List ℕ) → List ℕ → Entry → Context → Type 0
IsZoneRecord before owner left entry after =
    (head : Head) × (r : ZoneRecord) × IsRecordData before left head r × (entry ≡ RecordEntry r)
    × (after ≡ with_record (with_minimum before (minimum_after before head r.wire.items)) owner head)

-- These are the data after a head, but no time to live is known.
abbrev pub LacksRecordTtl : Context → Head → List ℕ → Type 0
LacksRecordTtl before head text =
    (own : List ℕ) × IsDataOf (Some before.origin) (class_after before head.class) head.record_type text own × (record_ttl before head own ≡ None)

-- No record is after the owner, in an entry of this length: it has no type, or no data of the type, or no time to live is known.
abbrev pub FailsZoneRecord : Context → ℕ → List ℕ → ZoneError → Type 0
FailsZoneRecord before len left error =
    LacksHead len left error
    ⊎ ((head : Head) × (text : List ℕ) × IsZoneHead left head text × LacksRecordTtl before head text × (error ≡ wrong_at len left NoTimeToLive))
    ⊎ ((head : Head) × (text : List ℕ) × IsZoneHead left head text
    × FailsData before.origin (class_after before head.class) head.record_type len text error)

-- ---- entries that begin with `$`

-- A word is a name, completed by the origin. A quoted string is none.
abbrev pub IsNameWord : NameValue → List ℕ → NameValue → Type 0
IsNameWord origin first name = (begins_with 34 first ≡ false) × (name_of_text (Some origin.labels) first ≡ Ok name)

abbrev pub LacksNameWord : NameValue → List ℕ → Type 0
LacksNameWord origin first = (name : NameValue) → ¬ (IsNameWord origin first name)

-- A name is all that is left, or it is not.
abbrev pub IsOnlyName : NameValue → List ℕ → NameValue → Type 0
IsOnlyName origin left name = IsNameWord origin (next_word left) name × IsEnd (after_next_word left)

abbrev pub FailsOnlyName : NameValue → ℕ → List ℕ → ZoneError → Type 0
FailsOnlyName origin len left error =
    (LacksNameWord origin (next_word left) × (error ≡ wrong_at len left NoName))
    ⊎ ((name : NameValue) × IsNameWord origin (next_word left) name × (¬ (IsEnd (after_next_word left)))
    × (error ≡ wrong_at len (after_next_word left) WordsLeft))

-- A time is all that is left, or it is not.
abbrev pub IsOnlyTtl : List ℕ → ℕ → Type 0
IsOnlyTtl left ttl = IsZoneTtl (next_word left) ttl × IsEnd (after_next_word left)

abbrev pub FailsTtl : ℕ → List ℕ → ZoneError → Type 0
FailsTtl len left error =
    ((rule : ZoneRule) × LacksZoneTtl left × IsTimeFault (next_word left) rule × (error ≡ wrong_at len left rule))
    ⊎ ((ttl : ℕ) × IsZoneTtl (next_word left) ttl × (¬ (IsEnd (after_next_word left))) × (error ≡ wrong_at len (after_next_word left) WordsLeft))

-- The origin of a file that is included is the name that is left, or the origin so far.
abbrev pub IsIncludeOrigin : NameValue → List ℕ → NameValue → Type 0
IsIncludeOrigin origin left name = (IsEnd left × (name ≡ origin)) ⊎ ((¬ (IsEnd left)) × IsOnlyName origin left name)

-- A file is left, and maybe an origin. Or not, or memory ran out.
abbrev pub IsInclude : NameValue → ℕ → List ℕ → Include → Type 0
IsInclude origin len left include =
    (next_word left ≢ []) × (include.file ≡ len - length (after_spaces left)) × (include.file_len ≡ length (next_word left))
    × IsIncludeOrigin origin (after_next_word left) include.origin.value

abbrev pub FailsInclude : NameValue → ℕ → List ℕ → ZoneError → Type 0
FailsInclude origin len left error =
    ((next_word left ≡ []) × (error ≡ wrong_at len left NoFile))
    ⊎ ((next_word left ≢ []) × (¬ (IsEnd (after_next_word left))) × FailsOnlyName origin len (after_next_word left) error)
    ⊎ ((next_word left ≢ []) × (name : NameValue) × IsIncludeOrigin origin (after_next_word left) name × (error ≡ Memory))

-- what an entry is by its first word
abbrev pub IsDirectiveEntry : Context → List ℕ → List ℕ → List ℕ → Entry → Context → Type 0
IsDirectiveEntry before first line rest entry after =
    (IsDirective first directives.Origin × (entry ≡ Nothing) × (name : NameValue) × IsOnlyName before.origin rest name × (after ≡ with_origin before name))
    ⊎ (IsDirective first directives.Ttl × (entry ≡ Nothing) × (ttl : ℕ) × IsOnlyTtl rest ttl × (after ≡ with_ttl before ttl))
    ⊎ (IsDirective first directives.Include × (include : Include) × IsInclude before.origin (length line) rest include × (entry ≡ IncludeEntry include) × (after ≡ before))

abbrev pub FailsDirectiveEntry : Context → List ℕ → List ℕ → List ℕ → ZoneError → Type 0
FailsDirectiveEntry before first line rest error =
    (IsDirective first directives.Origin × FailsOnlyName before.origin (length line) rest error)
    ⊎ (IsDirective first directives.Ttl × FailsTtl (length line) rest error)
    ⊎ (IsDirective first directives.Include × FailsInclude before.origin (length line) rest error)
    ⊎ (IsDirective first directives.Generate × (error ≡ wrong_at (length line) line Generate))
    ⊎ (((directive : Directive) → ¬ (IsDirective first directive)) × (error ≡ wrong_at (length line) line UnknownDirective))

-- ---- entries

-- how an entry begins: with white space, or with `$` or its owner, of which this is the first word and what is after it
abbrev pub line_kind : Bool → List ℕ → LineKind
line_kind indented start =
    if length start == 0 then Blank
    else if indented then OwnerBefore
    else if begins_with 36 start then Dollar
    else OwnerFirst

-- The entry is a record of this owner, of which the rest is left.
abbrev pub IsOwned : Option (List (List ℕ)) → Context → List ℕ → Entry → Context → Type 0
IsOwned (Some owner) before left entry after = IsZoneRecord before owner left entry after
IsOwned None before left entry after = ⊥

-- The rest is none, or there is no owner and the line breaks this rule.
abbrev pub FailsOwned : Option (List (List ℕ)) → Context → List ℕ → List ℕ → ZoneRule → ZoneError → Type 0
FailsOwned (Some owner) before line left rule error = FailsZoneRecord before (length line) left error
FailsOwned None before line left rule error = error ≡ wrong_at (length line) line rule

-- What an entry is, by how it begins, of which this is the line, its first word and the rest. Without words it says nothing.
abbrev pub IsEntryBy : LineKind → Context → List ℕ → List ℕ → List ℕ → Entry → Context → Type 0
IsEntryBy Blank before line first rest entry after = (entry ≡ Nothing) × (after ≡ before)
IsEntryBy OwnerBefore before line first rest entry after =
    (owner : Option (List (List ℕ))) × (owner ≡ before.owner) × IsOwned owner before line entry after
IsEntryBy Dollar before line first rest entry after = IsDirectiveEntry before first line rest entry after
IsEntryBy OwnerFirst before line first rest entry after =
    (owner : Option (List (List ℕ))) × (owner ≡ owner_at before.origin first) × IsOwned owner before rest entry after

abbrev pub FailsEntryBy : LineKind → Context → List ℕ → List ℕ → List ℕ → ZoneError → Type 0
FailsEntryBy Blank before line first rest error = ⊥
FailsEntryBy OwnerBefore before line first rest error =
    (owner : Option (List (List ℕ))) × (owner ≡ before.owner) × FailsOwned owner before line line NoOwner error
FailsEntryBy Dollar before line first rest error = FailsDirectiveEntry before first line rest error
FailsEntryBy OwnerFirst before line first rest error =
    (owner : Option (List (List ℕ))) × (owner ≡ owner_at before.origin first) × FailsOwned owner before line rest BadOwner error

-- what an entry is with this line, which begins with white space or not
abbrev pub IsEntry : Context → Bool → List ℕ → Entry → Context → Type 0
IsEntry before indented line entry after =
    (kind : LineKind) × (first : List ℕ) × (rest : List ℕ) × (kind ≡ line_kind indented (after_spaces line)) × (first ≡ next_word line)
    × (rest ≡ after_next_word line) × IsEntryBy kind before line first rest entry after

-- why a line is no entry
abbrev pub FailsEntry : Context → Bool → List ℕ → ZoneError → Type 0
FailsEntry before indented line error =
    (kind : LineKind) × (first : List ℕ) × (rest : List ℕ) × (kind ≡ line_kind indented (after_spaces line)) × (first ≡ next_word line)
    × (rest ≡ after_next_word line) × FailsEntryBy kind before line first rest error
