-- Times as text (RFC 4034, section 3.2): YYYYMMDDHHmmSS in UTC, or a decimal number of seconds since 1970; only the first
-- has 14 digits. A time has 32 bits, so that of a date is counted from zero again after them (section 3.1.5).
use Rattle.std.specs.Prelude.{◌≡◌, ◌≢◌, ◌≤◌, ◌<◌, ℕ, ◌+◌, ◌-◌, ◌*◌, ◌%◌, ◌⊎◌, pos, List, length, slice_index}
use Rattle.std.specs.List.{AllPass}
use Rattle.std.specs.Char.{is_ascii_digit}
use Rattle.std.specs.Int.{IsInRange}
use Rattle.jiff_core.specs.Calendar.{days_in_month, days_from_civil}
use Rattle.dnw_zone_values.specs.Numbers.{max_u32, IsNumberText}

-- a date of the calendar from 1970 on, with the days since then
pub record IsDay (year month day days : ℕ) : Type 0 where
  pub year_in : year ≤ 9999
  pub month_in : IsInRange 1 12 month
  pub day_in : IsInRange 1 (days_in_month (pos year) month) day
  pub after : days_from_civil (pos year) month day ≡ pos days

-- a time of day on the day with this number, with the seconds since 1970 began
pub record IsMoment (days hour minute second seconds : ℕ) : Type 0 where
  pub clock : (hour < 24) × (minute < 60) × (second < 60)
  pub value : seconds ≡ days * 86400 + hour * 3600 + minute * 60 + second

-- the number that two digits write
abbrev pub two_at : List ℕ → ℕ → ℕ
two_at text i = 10 * (slice_index text i - 48) + (slice_index text (i + 1) - 48)

-- The text is 14 digits: year, month, day, hour, minute and second. They are a date and a time of day, this many seconds
-- after 1970 began.
pub record IsDateText (text : List ℕ) (seconds : ℕ) : Type 0 where
  pub days : ℕ
  pub digits : (length text ≡ 14) × AllPass is_ascii_digit text
  pub date : IsDay (100 * two_at text 0 + two_at text 2) (two_at text 4) (two_at text 6) days
  pub moment : IsMoment days (two_at text 8) (two_at text 10) (two_at text 12) seconds

-- how many times there are
abbrev pub time_count : ℕ
time_count = 4294967296

-- the text is this time, as a date or as a number
abbrev pub IsTimeText : List ℕ → ℕ → Type 0
IsTimeText text seconds =
    ((moment : ℕ) × IsDateText text moment × (seconds ≡ moment % time_count)) ⊎ ((length text ≢ 14) × IsNumberText max_u32 text seconds)
