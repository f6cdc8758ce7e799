-- Which line a text of master files begins with (RFC 1035, section 5.1). A line is kept octet by octet: words and white space as they
-- are, and a space for each octet of a comment, for a parenthesis, and for the end of a line in parentheses. So the offset of an
-- octet in the line is its offset in the text.
--
-- Words are parted by spaces and tabs. A semicolon begins a comment, which goes up to a line feed. Parentheses group lines: within
-- them, the end of a line is white space. They may stand in others. A quote begins a quoted string wherever it is, and the string ends at
-- the next quote, in the same line. A backslash takes its meaning from the next octet, in quotes and outside; which octet the two
-- stand for is left to who reads the word.
use Rattle.std.specs.Prelude.{ℕ, suc, ◌+◌, ◌-◌, Bool, not, true, false, ◌||◌, ◌==◌, if◌then◌else◌, List, [], ◌∷◌, ◌++◌}
use Rattle.dnw_zone_data.specs.Words.{is_plain_octet}
use Rattle.dnw_zone_record.specs.declared.word_error.WordRule.{WordRule}
use Rattle.dnw_zone_record.specs.declared.word_error.WordRule.TheVariants.{NestedParenthesis, UnopenedParenthesis, UnclosedParenthesis, UnclosedQuote, UnfinishedEscape}
use Rattle.dnw_zone_record.specs.declared.scan.Place.{Place}
use Rattle.dnw_zone_record.specs.declared.scan.Place.TheVariants.{Words, Escaped, Quoted, QuotedEscaped, Comment}
use Rattle.dnw_zone_record.specs.declared.scan.Octet.{Octet}
use Rattle.dnw_zone_record.specs.declared.scan.Octet.TheVariants.{Kept, Blank, End, Wrong as IsWrong}
use Rattle.dnw_zone_record.specs.declared.scan.Ending.{Ending}
use Rattle.dnw_zone_record.specs.declared.scan.Ending.TheVariants.{Line, Text, Cut, Wrong}

-- a carriage return or a line feed ends a line
abbrev pub ends_line : ℕ → Bool
ends_line c = c == 10 || c == 13

-- how many parentheses may be open
abbrev pub max_open : ℕ
max_open = 255

-- the end of a line ends the entry, or it is white space within parentheses
abbrev pub at_line_end : ℕ → Octet
at_line_end depth = if depth == 0 then End else Blank Words depth

-- what these octets are, with so many open parentheses
abbrev pub of_special : ℕ → ℕ → Octet
of_special depth c =
    if ends_line c then at_line_end depth
    else if c == 59 then Blank Comment depth
    else if c == 34 then Kept Quoted
    else if c == 92 then Kept Escaped
    else if c == 40 then (if depth == max_open then IsWrong NestedParenthesis else Blank Words (depth + 1))
    else if depth == 0 then IsWrong UnopenedParenthesis
    else Blank Words (depth - 1)

-- In a quoted string, other octets are parts of it.
abbrev pub is_quoted : ℕ → Bool
is_quoted c = not (c == 10 || c == 34 || c == 92)

-- what an octet is in a quoted string
abbrev pub of_quoted : ℕ → Octet
of_quoted c =
    if c == 10 then IsWrong UnclosedQuote
    else if c == 34 then Kept Words
    else if c == 92 then Kept QuotedEscaped
    else Kept Quoted

-- what an octet is at a place, with so many open parentheses
abbrev pub on_octet : Place → ℕ → ℕ → Octet
on_octet Words depth c = if is_plain_octet c then Kept Words else of_special depth c
on_octet Escaped depth c = if ends_line c then IsWrong UnfinishedEscape else Kept Words
on_octet Quoted depth c = of_quoted c
on_octet QuotedEscaped depth c = Kept Quoted
on_octet Comment depth c = if c == 10 then at_line_end depth else Blank Comment depth

-- how the line ends if the text ends at a place
abbrev pub end_at : Place → ℕ → Ending
end_at Escaped depth = Cut UnfinishedEscape
end_at Quoted depth = Cut UnclosedQuote
end_at QuotedEscaped depth = Cut UnclosedQuote
end_at Words depth = if depth == 0 then Text else Cut UnclosedParenthesis
end_at Comment depth = if depth == 0 then Text else Cut UnclosedParenthesis

-- what an octet adds to the line: each case in turn
abbrev pub added_octet : {A : Type 0} → Octet → ℕ → (ℕ → Place → A) → (Place → ℕ → A) → (Ending → A) → A
added_octet (Kept next) c kept blank ended = kept c next
added_octet (Blank next depth) c kept blank ended = blank next depth
added_octet End c kept blank ended = ended Line
added_octet (IsWrong rule) c kept blank ended = ended (Wrong rule)

-- the line, after what it has so far, of a text that is left at a place, and how it ends
abbrev pub line_from : List ℕ → Place → ℕ → List ℕ → List ℕ × Ending
line_from so place depth [] = (so, end_at place depth)
line_from so place depth (c ∷ cs) =
    added_octet (on_octet place depth c) c
    (λ o next. line_from (so ++ o ∷ []) next depth cs)
    (λ next within. line_from (so ++ 32 ∷ []) next within cs)
    (λ ending. (so, ending))

-- the line that a text begins with, and how it ends
abbrev pub line_of : List ℕ → List ℕ × Ending
line_of text = line_from [] Words 0 text

-- ---- where it goes wrong

-- A quote begins a string outside of strings, escapes and comments.
abbrev pub begins_string : Place → ℕ → Bool
begins_string Words c = c == 34
begins_string place c = false

-- what an octet of a text makes of the offsets of the last quote that begins a string, and of the last octet outside of parentheses
-- that is no part of a word, which is the parenthesis that is open if one is
abbrev pub opened_after : {A : Type 0} → Octet → Bool → ℕ → ℕ → ℕ → ℕ → (ℕ → ℕ → Place → ℕ → A) → A → A
opened_after (Kept next) begins depth quote group at goes_on ended = goes_on (if begins then at else quote) group next depth
opened_after (Blank next within) begins depth quote group at goes_on ended = goes_on quote (if depth == 0 then at else group) next within
opened_after End begins depth quote group at goes_on ended = ended
opened_after (IsWrong rule) begins depth quote group at goes_on ended = ended

-- both offsets at the end of the line, in a text that is left at an offset
abbrev pub opened_from : ℕ → ℕ → ℕ → Place → ℕ → List ℕ → ℕ × ℕ
opened_from quote group at place depth [] = (quote, group)
opened_from quote group at place depth (c ∷ cs) =
    opened_after (on_octet place depth c) (begins_string place c) depth quote group at
    (λ later_quote later_group next within. opened_from later_quote later_group (at + 1) next within cs)
    (quote, group)

abbrev pub opened_in : List ℕ → ℕ × ℕ
opened_in text = opened_from 0 0 0 Words 0 text

-- the offset of what is against a rule, of a text whose line ends here: of the quote or the parenthesis that is not closed, or the end
abbrev pub fault_offset : List ℕ → ℕ → WordRule → ℕ
fault_offset text end UnclosedQuote = (opened_in text).0
fault_offset text end UnclosedParenthesis = (opened_in text).1
fault_offset text end rule = end

-- ---- its owner

-- A text that begins with white space leaves out the owner. A parenthesis is none.
abbrev pub is_indented : List ℕ → Bool
is_indented [] = false
is_indented (c ∷ cs) = c == 32 || c == 9

-- An octet at a place is kept, and the next one is there too.
abbrev pub is_kept : Place → ℕ → Bool
is_kept Words c = is_plain_octet c
is_kept Quoted c = is_quoted c
is_kept place c = false

-- the number of octets that are so
abbrev pub kept_len : Place → List ℕ → ℕ
kept_len place [] = 0
kept_len place (c ∷ cs) = if is_kept place c then suc (kept_len place cs) else 0
