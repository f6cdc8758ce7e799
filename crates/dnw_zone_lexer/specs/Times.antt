-- Times to live as text: groups of digits and a unit, as `1h30m`, and seconds where the last unit is left out (RFC 1035,
-- section 5.1, has seconds alone; the units are those that name servers take).
use Rattle.std.specs.Prelude.{ℕ, ◌+◌, ◌-◌, ◌*◌, ◌<◌, ◌≤◌, ◌≡◌, ◌==◌, ◌||◌, if◌then◌else◌, ⊤, Option, Some, None, option_map, List, [], ◌∷◌, length, sum_by, string_bytes}
use Rattle.std.specs.Char.{is_ascii_digit}
use Rattle.dnw_zone_lexer.specs.declared.errors.ParseError.{ParseError}
use Rattle.dnw_zone_lexer.specs.declared.errors.ParseError.TheVariants.{ParseTime, Memory}

-- the greatest time to live, in seconds: the field has 32 bits (RFC 1035, section 4.1.3)
abbrev pub max_ttl : ℕ
max_ttl = 4294967295

-- the seconds of a unit, in either case: `s`, `m`, `h`, `d` and `w`
abbrev pub unit_seconds : ℕ → Option ℕ
unit_seconds c =
    if c == 115 || c == 83 then Some 1
    else if c == 109 || c == 77 then Some 60
    else if c == 104 || c == 72 then Some 3600
    else if c == 100 || c == 68 then Some 86400
    else if c == 119 || c == 87 then Some 604800
    else None

abbrev pub with_group : ℕ → Option ℕ → Option (List (ℕ × ℕ)) → Option (List (ℕ × ℕ))
with_group number (Some seconds) (Some groups) = Some ((number, seconds) ∷ groups)
with_group number unit groups = None

-- The groups that a text is made of, each as its number and the seconds of its unit, if it is made of groups. The first
-- argument is the number whose digits stand before the text, if there is one.
abbrev pub groups_after : Option ℕ → List ℕ → Option (List (ℕ × ℕ))
groups_after None [] = Some []
groups_after None (c ∷ cs) = if is_ascii_digit c then groups_after (Some (c - 48)) cs else None
groups_after (Some number) [] = Some ((number, 1) ∷ [])
groups_after (Some number) (c ∷ cs) =
    if is_ascii_digit c then groups_after (Some (10 * number + (c - 48))) cs
    else with_group number (unit_seconds c) (groups_after None cs)

-- the sum of number times seconds
abbrev pub total_seconds : List (ℕ × ℕ) → ℕ
total_seconds groups = sum_by (λ g. g.0 * g.1) groups

-- the seconds of a text, if it is a time: one of at least one group
abbrev pub time_seconds : List ℕ → Option ℕ
time_seconds [] = None
time_seconds (c ∷ cs) = option_map total_seconds (groups_after None (c ∷ cs))

-- there is no time, or one of too many seconds
abbrev pub IsNoTtl : Option ℕ → Type 0
IsNoTtl (Some seconds) = max_ttl < seconds
IsNoTtl None = ⊤

-- the error reports this text, or memory ran out for it
abbrev pub IsParseTime : List ℕ → ParseError → Type 0
IsParseTime text (ParseTime own) = string_bytes own ≡ text
IsParseTime text Memory = 1 ≤ length text
IsParseTime text error = ⊥
