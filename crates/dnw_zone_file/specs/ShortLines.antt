-- What is written of a record in a zone file after other entries (RFC 1035, section 5.1; RFC 2308, section 4): what these say is left
-- out. And `$ORIGIN` and `$TTL`.
use Rattle.std.specs.Prelude.{◌≡◌, ◌≢◌, ◌⊎◌, ◌==◌, if◌then◌else◌, true, ℕ, List, [], ◌∷◌, ◌++◌, codes, decimal, Option, Some, None}
use Rattle.dnw_base.specs.DnsClasses.{class_text}
use Rattle.dnw_base.specs.Names.{NameValue}
use Rattle.dnw_base.specs.RecordTypes.{type_text}
use Rattle.dnw_name_text.specs.NameTexts.{full_name_text, relative_name_text}
use Rattle.dnw_record.specs.Records.{RecordValue}
use Rattle.dnw_zone_data.specs.DataTexts.{IsDataText}
use Rattle.dnw_zone_file.specs.declared.context.Context.{Context}
use Rattle.dnw_zone_file.specs.declared.head.Head.{Head}
use Rattle.dnw_zone_file.specs.Contexts.{with_origin, with_record, with_ttl}
use Rattle.dnw_zone_record.specs.RecordLines.{spaced}

-- ---- the owner

-- The name is these labels before those of the origin, which has some.
abbrev pub IsBefore : List (List ℕ) → List (List ℕ) → List (List ℕ) → Type 0
IsBefore origin name front = (origin ≢ []) × (name ≡ front ++ origin)

-- a name without the labels of the origin if it ends with them, and else in full
abbrev pub IsShortName : List (List ℕ) → List (List ℕ) → List ℕ → Type 0
IsShortName origin name text =
    ((front : List (List ℕ)) × IsBefore origin name front × (text ≡ relative_name_text front))
    ⊎ (((front : List (List ℕ)) → ¬ (IsBefore origin name front)) × (text ≡ full_name_text name))

-- nothing if it is the owner of the last record
abbrev pub IsShortOwner : Context → List (List ℕ) → List ℕ → Type 0
IsShortOwner before owner text =
    ((before.owner ≡ Some owner) × (text ≡ [])) ⊎ ((before.owner ≢ Some owner) × IsShortName before.origin.labels owner text)

-- ---- the line

-- the time to live: none if it is that of the last `$TTL`
abbrev pub short_ttl : Option ℕ → ℕ → Option ℕ
short_ttl (Some known) ttl = if known == ttl then None else Some ttl
short_ttl None ttl = Some ttl

abbrev pub ttl_part : Option ℕ → List ℕ
ttl_part (Some ttl) = 32 ∷ decimal ttl
ttl_part None = []

-- what is after the owner
abbrev pub short_rest : Option ℕ → RecordValue → List ℕ → List ℕ
short_rest ttl r text = ttl_part ttl ++ (32 ∷ (class_text r.class ++ (32 ∷ (type_text r.record_type ++ spaced text))))

-- a line of this owner, and a line feed
abbrev pub short_line : Option ℕ → RecordValue → List ℕ → List ℕ → List ℕ
short_line ttl r owner text = owner ++ short_rest ttl r text ++ 10 ∷ []

-- a line of the record with these labels as its owner, and this time to live
abbrev pub IsShortText : Context → List (List ℕ) → Option ℕ → RecordValue → List ℕ → Type 0
IsShortText before labels ttl r line =
    (owner : List ℕ) × (text : List ℕ) × IsShortOwner before labels owner × IsDataText r text × (line ≡ short_line ttl r owner text)

-- what it has between the owner and the data
abbrev pub short_head : Context → RecordValue → Head
short_head before r = record { ttl = short_ttl before.default_ttl r.ttl; class = Some r.class; record_type = r.record_type }

-- The record is appended, after entries that say this before and that after it.
abbrev pub AppendsShort : Context → RecordValue → List ℕ → List ℕ → Context → Type 0
AppendsShort before r old new after =
    (line : List ℕ) × IsShortText before r.owner (short_ttl before.default_ttl r.ttl) r line × (new ≡ old ++ line)
    × (after ≡ with_record before r.owner (short_head before r))

-- ---- directives

-- `$ORIGIN` with the name in full
abbrev pub origin_line : List (List ℕ) → List ℕ
origin_line labels = codes "$ORIGIN " ++ full_name_text labels ++ 10 ∷ []

abbrev pub AppendsOrigin : Context → NameValue → List ℕ → List ℕ → Context → Type 0
AppendsOrigin before origin old new after =
    (new ≡ old ++ origin_line origin.labels) × (after ≡ with_origin before (record { is_fqdn = true; labels = origin.labels }))

-- `$TTL` in seconds
abbrev pub ttl_line : ℕ → List ℕ
ttl_line ttl = codes "$TTL " ++ decimal ttl ++ 10 ∷ []

abbrev pub AppendsTtl : Context → ℕ → List ℕ → List ℕ → Context → Type 0
AppendsTtl before ttl old new after = (new ≡ old ++ ttl_line ttl) × (after ≡ with_ttl before ttl)
