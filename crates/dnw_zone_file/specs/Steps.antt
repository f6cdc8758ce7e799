-- What the text of a zone file begins with, after the entries before it: an entry, which goes up to the end of its line, or why it is
-- none, or nothing. Of a text that may go on, an entry that is not whole is none yet.
use Rattle.std.specs.Prelude.{◌≡◌, ◌≢◌, ◌<◌, ◌⊎◌, ◌+◌, ◌==◌, ⊤, Bool, true, false, ℕ, List, [], ◌∷◌, drop, length, if◌then◌else◌, Option, Some, None, Ok, Err, IfOk}
use Rattle.dnw_zone_record.specs.Lines.{fault_offset, is_indented, line_of}
use Rattle.dnw_zone_record.specs.declared.word_error.WordRule.{WordRule}
use Rattle.dnw_zone_record.specs.declared.scan.Ending.{Ending}
use Rattle.dnw_zone_record.specs.declared.scan.Ending.TheVariants.{Line, Text, Cut, Wrong as WrongWords}
use Rattle.dnw_zone_file.specs.declared.context.Context.{Context}
use Rattle.dnw_zone_file.specs.declared.entry.Entry.{Entry}
use Rattle.dnw_zone_file.specs.declared.error.ZoneError.{ZoneError}
use Rattle.dnw_zone_file.specs.declared.error.ZoneError.TheVariants.{Wrong, Memory}
use Rattle.dnw_zone_file.specs.declared.error.ZoneRule.TheVariants.{Words}
use Rattle.dnw_zone_file.specs.declared.step.Found.{Found}
use Rattle.dnw_zone_file.specs.declared.step.Found.TheVariants.{Entry as IsOne, End, More}
use Rattle.dnw_zone_file.specs.declared.step.Step.{Step}
use Rattle.dnw_zone_file.specs.Entries.{FailsEntry, IsEntry}

-- the number of octets up to and with the first line feed, from an offset on
abbrev pub feed_from : ℕ → List ℕ → Option ℕ
feed_from at [] = None
feed_from at (c ∷ cs) = if c == 10 then Some (at + 1) else feed_from (at + 1) cs

abbrev pub after_feed : List ℕ → Option ℕ
after_feed text = feed_from 0 text

-- more of the text is wanted
abbrev pub more_step : Step
more_step = record { used = 0; found = Ok More }

-- quotes, escapes or parentheses are against a rule at an offset
abbrev pub words_step : ℕ → WordRule → ℕ → Step
words_step offset rule used = record { used = used; found = Err (Wrong offset (Words rule)) }

-- The entry with this line takes so many octets, or it is none.
abbrev pub IsEntryFound : Context → Bool → List ℕ → ℕ → Step → Context → Type 0
IsEntryFound before indented line used step after =
    ((entry : Entry) × IsEntry before indented line entry after × (step ≡ record { used = used; found = Ok (IsOne entry) }))
    ⊎ ((error : ZoneError) × FailsEntry before indented line error × (step ≡ record { used = used; found = Err error }) × (after ≡ before))

-- After an error of words, a text whose line ends at an offset goes on after the next line feed, if there is one.
abbrev pub wrong_step : Bool → List ℕ → ℕ → WordRule → Option ℕ → Step
wrong_step more text end rule (Some len) = words_step (fault_offset text end rule) rule (end + len)
wrong_step more text end rule None = if more then more_step else words_step (fault_offset text end rule) rule (length text)

-- An entry takes octets.
abbrev pub MovesBy : Found → ℕ → Type 0
MovesBy (IsOne entry) used = 0 < used
MovesBy other used = ⊤

abbrev pub Moves : Step → Type 0
Moves step = IfOk step.found (λ found. MovesBy found step.used)

-- what a text is of which this is the line, by how it ends
abbrev pub IsStepAt : Context → List ℕ → Bool → List ℕ → Ending → Step → Context → Type 0
IsStepAt before text more line Line step after = IsEntryFound before (is_indented text) line (length line + 1) step after
IsStepAt before text false line Text step after = IsEntryFound before (is_indented text) line (length line) step after
IsStepAt before text true line Text step after = (step ≡ more_step) × (after ≡ before)
IsStepAt before text more line (Cut rule) step after =
    (step ≡ (if more then more_step else words_step (fault_offset text (length line) rule) rule (length line))) × (after ≡ before)
IsStepAt before text more line (WrongWords rule) step after =
    (step ≡ wrong_step more text (length line) rule (after_feed (drop (length line) text))) × (after ≡ before)

-- An empty text has no entry. Memory may run out.
abbrev pub IsStep : Context → List ℕ → Bool → Step → Context → Type 0
IsStep before text more step after =
    ((text ≡ []) × (step ≡ record { used = 0; found = Ok (if more then More else End) }) × (after ≡ before))
    ⊎ ((text ≢ []) × (line : List ℕ) × (ending : Ending) × (line_of text ≡ (line, ending)) × IsStepAt before text more line ending step after)
    ⊎ ((step ≡ record { used = 0; found = Err Memory }) × (after ≡ before))
