-- `$GENERATE range owner [ttl] [class] type data`, an entry that stands for a record for each number of a range (the BIND 9 Administrator
-- Reference Manual, "The $GENERATE Directive"; no RFC has it). The owner and the data are templates; the data are one word, or a quoted string
-- in which each quote is escaped. The record for a number is that of a line with what the templates make.
use Rattle.std.specs.Prelude.{◌≡◌, ◌≤◌, ◌<◌, ◌⊎◌, ℕ, ◌+◌, ◌-◌, ◌/◌, ◌&&◌, nat_le, Bool, true, false, List, [], ◌∷◌, ◌++◌, length, take, drop, if◌then◌else◌, Option, Some, None, Result, Ok, Err}
use Rattle.dnw_zone_data.specs.Words.{after_spaces}
use Rattle.dnw_zone_record.specs.Lines.{line_of}
use Rattle.dnw_zone_record.specs.RecordLines.{after_next_word, next_word}
use Rattle.dnw_zone_record.specs.declared.scan.Ending.{Ending}
use Rattle.dnw_zone_file.specs.Entries.{IsEnd, IsOwned, FailsZoneRecord, begins_with, owner_at}
use Rattle.dnw_zone_file.specs.Heads.{IsZoneHead, LacksHead, wrong_at}
use Rattle.dnw_zone_file.specs.Templates.{made_text, digits_number, text_before, text_from}
use Rattle.dnw_zone_file.specs.declared.context.Context.{Context}
use Rattle.dnw_zone_file.specs.declared.entry.Entry.{Entry}
use Rattle.dnw_zone_file.specs.declared.error.ZoneError.{ZoneError}
use Rattle.dnw_zone_file.specs.declared.error.ZoneError.TheVariants.{Wrong, Memory}
use Rattle.dnw_zone_file.specs.declared.error.ZoneRule.TheVariants.{BadOwner, BadTemplate, Generate as GenerateRule, NoRange, TooMany, WordsLeft}
use Rattle.dnw_zone_file.specs.declared.generate.Generate.{Generate}
use Rattle.dnw_zone_file.specs.declared.generate.Range.{Range}
use Rattle.dnw_zone_file.specs.declared.head.Head.{Head}
use Rattle.dnw_zone_file.specs.declared.step.Found.{Found}
use Rattle.dnw_zone_file.specs.declared.step.Found.TheVariants.{Entry as IsOne}
use Rattle.dnw_zone_file.specs.declared.step.Step.{Step}

-- a step that is a `$GENERATE`
abbrev pub is_generate : Result Found ZoneError → Bool
is_generate (Err (Wrong offset GenerateRule)) = true
is_generate found = false

-- ---- the range

-- `first-last` or `first-last/step`; the step is 1 if it is left out
abbrev pub range_with : Option ℕ → Option ℕ → Option ℕ → Option Range
range_with (Some first) (Some last) (Some step) =
    if nat_le first last && nat_le 1 step then Some (record { first = first; last = last; step = step }) else None
range_with first last step = None

abbrev pub step_of : List ℕ → Option ℕ
step_of [] = Some 1
step_of (slash ∷ text) = digits_number text

abbrev pub range_from : Option ℕ → List ℕ → Option Range
range_from first [] = None
range_from first (hyphen ∷ text) = range_with first (digits_number (text_before 47 text)) (step_of (text_from 47 text))

abbrev pub range_of : List ℕ → Option Range
range_of word = range_from (digits_number (text_before 45 word)) (text_from 45 word)

-- The range has no more numbers than so many.
abbrev pub IsShort : ℕ → Range → Type 0
IsShort limit range = (range.last - range.first) / range.step < limit

-- the number after one, if there is one
abbrev pub next_number : Range → ℕ → Option ℕ
next_number range n = if nat_le (n + range.step) range.last then Some (n + range.step) else None

-- the number that is wanted, or else the first
abbrev pub number_or_first : Option ℕ → Range → ℕ
number_or_first (Some n) range = n
number_or_first None range = range.first

-- ---- the words

-- what is left after the range and the owner
abbrev pub left_of_owner : List ℕ → List ℕ
left_of_owner left = after_next_word (after_next_word left)

-- The words after `$GENERATE`, in a line of this length. What is between the owner and the data is kept as it is.
abbrev pub IsGenerate : ℕ → List ℕ → Generate → Type 0
IsGenerate len left g =
    (head : Head) × (text : List ℕ) × (range_of (next_word left) ≡ Some g.range) × IsZoneHead (left_of_owner left) head text
    × IsEnd (after_next_word text) × (g.owner.now ≡ next_word (after_next_word left))
    × (g.owner_at ≡ len - length (after_spaces (after_next_word left)))
    × (g.between.now ≡ take (length (left_of_owner left) - length (after_spaces text)) (left_of_owner left))
    × (g.data.now ≡ next_word text) × (g.data_at ≡ len - length (after_spaces text))

-- They are none: no range is there, or no type of a zone, or more is after the data.
abbrev pub FailsGenerate : ℕ → List ℕ → ZoneError → Type 0
FailsGenerate len left error =
    ((range_of (next_word left) ≡ None) × (error ≡ wrong_at len left NoRange))
    ⊎ LacksHead len (left_of_owner left) error
    ⊎ ((head : Head) × (text : List ℕ) × IsZoneHead (left_of_owner left) head text × (¬ (IsEnd (after_next_word text)))
    × (error ≡ wrong_at len (after_next_word text) WordsLeft))

-- ---- records

-- what the data make, without the quotes of a quoted string
abbrev pub made_data : ℕ → List ℕ → Option (List ℕ)
made_data n word = if begins_with 34 word then made_text n true (drop 1 (take (length word - 1) word)) else made_text n false word

-- The entry is the record of the owner and the data that the templates make.
abbrev pub IsGeneratedEntry : Context → Generate → ℕ → Entry → Context → Type 0
IsGeneratedEntry before g n entry after =
    (owner : List ℕ) × (own : List ℕ) × (made_text n false g.owner.now ≡ Some owner) × (made_data n g.data.now ≡ Some own)
    × IsOwned (owner_at before.origin owner) before (g.between.now ++ own) entry after

-- These make no record: the owner is no name, or what is after it is none of a record.
abbrev pub FailsGeneratedLine : Context → Generate → List ℕ → List ℕ → ZoneError → Type 0
FailsGeneratedLine before g owner own error =
    ((owner_at before.origin owner ≡ None) × (error ≡ Wrong g.owner_at BadOwner))
    ⊎ FailsZoneRecord before (g.data_at + length own) (g.between.now ++ own) error

-- A template makes nothing, or no record is made, or memory ran out. What is wrong is at the template.
abbrev pub FailsGeneratedEntry : Context → Generate → ℕ → ZoneError → Type 0
FailsGeneratedEntry before g n error =
    ((made_text n false g.owner.now ≡ None) × (error ≡ Wrong g.owner_at BadTemplate))
    ⊎ ((made_data n g.data.now ≡ None) × (error ≡ Wrong g.data_at BadTemplate))
    ⊎ ((owner : List ℕ) × (own : List ℕ) × (made_text n false g.owner.now ≡ Some owner) × (made_data n g.data.now ≡ Some own)
    × FailsGeneratedLine before g owner own error)
    ⊎ (error ≡ Memory)

-- ---- entries

-- The entry that a text begins with has this line, and the words of this `$GENERATE`, which stands for no more records than the limit.
abbrev pub GeneratesBy : List ℕ → ℕ → Generate → Type 0
GeneratesBy text limit g =
    (line : List ℕ) × (ending : Ending) × (line_of text ≡ (line, ending)) × IsGenerate (length line) (after_next_word line) g × IsShort limit g.range

-- It makes this entry for a number, or the first one, and then comes the next number.
abbrev pub IsGenerated : Context → List ℕ → ℕ → Option ℕ → Entry → Option ℕ → Context → Type 0
IsGenerated before text limit wanted entry next after =
    (g : Generate) × (n : ℕ) × GeneratesBy text limit g × (n ≡ number_or_first wanted g.range) × IsGeneratedEntry before g n entry after
    × (next ≡ next_number g.range n)

-- Its words are none, or stand for more records than the limit.
abbrev pub FailsWords : List ℕ → ℕ → ZoneError → Type 0
FailsWords text limit error =
    (line : List ℕ) × (ending : Ending) × (line_of text ≡ (line, ending))
    × (FailsGenerate (length line) (after_next_word line) error
    ⊎ ((g : Generate) × IsGenerate (length line) (after_next_word line) g × (limit ≤ (g.range.last - g.range.first) / g.range.step)
    × (error ≡ wrong_at (length line) (after_next_word line) TooMany)))

abbrev pub FailsGenerated : Context → List ℕ → ℕ → Option ℕ → ZoneError → Type 0
FailsGenerated before text limit wanted error =
    FailsWords text limit error
    ⊎ ((g : Generate) × GeneratesBy text limit g × FailsGeneratedEntry before g (number_or_first wanted g.range) error)
    ⊎ (error ≡ Memory)

-- The last record takes so many octets, and those before it none.
abbrev pub octets_of_last : Option ℕ → ℕ → ℕ
octets_of_last (Some next) used = 0
octets_of_last None used = used

-- The step is the record for a number, and which number is next; or it is why there is none.
abbrev pub IsGeneratedStep : Context → List ℕ → ℕ → ℕ → Option ℕ → Step → Option ℕ → Context → Type 0
IsGeneratedStep before text used limit wanted step next after =
    ((entry : Entry) × IsGenerated before text limit wanted entry next after × (step ≡ record { used = octets_of_last next used; found = Ok (IsOne entry) }))
    ⊎ ((error : ZoneError) × FailsGenerated before text limit wanted error × (step ≡ record { used = used; found = Err error }) × (next ≡ None)
    × (after ≡ before))
