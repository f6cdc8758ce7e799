-- Dates from 1970 on.
use Rattle.std.proofs.Common.{◌≡◌, ℕ, ◌+◌, ◌*◌, ◌/◌, ◌%◌, true, List, [], ◌∷◌, ◌++◌, length, Option, Some, None, inl, inr, ◌≤◌, ◌<◌, ℤ, pos, negsuc, refl, sym, ap, ◌∙◌, arith, rules, lit≤}
use Rattle.std.specs.Prelude.{MatchOption, ◌≤ℤ◌, unsigned_abs}
use Rattle.jiff_core.specs.Calendar.{IsCivilDate, days_from_civil}
use Rattle.jiff_core.specs.Date.{epoch_day}
use Rattle.jiff_core.proofs.CalendarLemmas.{days_in_month_bounds, day_count-epoch, days_from_civil-day_count, day_count-lt_year}
use Rattle.jiff_core.proofs.DateLemmas.{civil}
use Rattle.jiff_core.specs.declared.civil.date.Date.{Date}
use Rattle.std.specs.List.{AllPass}
use Rattle.std.specs.Char.{is_ascii_digit}
use Rattle.std.proofs.lemmas.List.Elements.{All-cons, All-nil}
use Rattle.dnw_zone_values.specs.Times.{IsDay, IsMoment, IsDateText, IsTimeText, time_count, two_at}

-- no day since then is in a year before 0
year_is : (y : ℤ) (m d days : ℕ) → IsCivilDate y m d → days_from_civil y m d ≡ pos days → y ≡ pos (unsigned_abs y)
year_is (pos n) m d days is after = refl
year_is (negsuc n) m d days is after =
    let before = day_count-lt_year (negsuc n) m d (pos 1970) 1 1 is (lit≤ tt) (search rules) in
    let count = rw after at (days_from_civil-day_count (negsuc n) m d) in
    absurd (omega (arith, before, count, day_count-epoch))

bound : (n : ℕ) → pos n ≤ℤ pos 9999 → n ≤ 9999
bound n within = first_of (omega arith, search rules, grind arith)

-- a date with its day number
pub date_is : (date : Date) (year days : ℕ) → year ≡ unsigned_abs date.year → epoch_day date ≡ pos days → IsDay year date.month date.day days
date_is date year days abs after =
    let is : date.year ≡ pos year = year_is date.year date.month date.day days (civil date) after ∙ ap pos (sym abs) in
    let in_years = rw is at date.year_in in
    record { year_in = bound year in_years.1; month_in = date.month_in; day_in = rw is at date.day_in; after = rw is at after }

-- a date by other names of its numbers
pub day_by : (y m d days y′ m′ d′ : ℕ) → IsDay y m d days → y′ ≡ y → m′ ≡ m → d′ ≡ d → IsDay y′ m′ d′ days
day_by y m d days y′ m′ d′ is ey em ed = rw (ey, em, ed) is

-- ---- what is printed

digit : (d : ℕ) → d < 10 → is_ascii_digit (48 + d) ≡ true
digit d fits = grind arith

two_pass : (n : ℕ) (rest : List ℕ) → n < 100 → AllPass is_ascii_digit rest → AllPass is_ascii_digit ((48 + n / 10) ∷ (48 + n % 10) ∷ rest)
two_pass n rest fits pass =
    All-cons (λ (c : ℕ). is_ascii_digit c ≡ true) (48 + n / 10) ((48 + n % 10) ∷ rest) (digit (n / 10) (omega arith))
    (All-cons (λ (c : ℕ). is_ascii_digit c ≡ true) (48 + n % 10) rest (digit (n % 10) (omega arith)) pass)

abbrev two : ℕ → List ℕ
two n = (48 + n / 10) ∷ (48 + n % 10) ∷ []

-- the digits of a date and a time of day
pub printed : (y m d days clock seconds : ℕ) → IsDay y m d days → clock < 86400 → seconds ≡ days * 86400 + clock
    → IsDateText (two (y / 100) ++ two (y % 100) ++ two m ++ two d ++ two (clock / 3600) ++ two (clock / 60 % 60) ++ two (clock % 60)) seconds
printed y m d days clock seconds is fits value =
    let in_years = is.year_in in
    let in_year = is.month_in in
    let in_month = is.day_in in
    let most = days_in_month_bounds (pos y) m in
    let second : List ℕ = two (clock % 60) in
    let minute : List ℕ = two (clock / 60 % 60) ++ second in
    let hour : List ℕ = two (clock / 3600) ++ minute in
    let of_day : List ℕ = two d ++ hour in
    let of_month : List ℕ = two m ++ of_day in
    let of_year : List ℕ = two (y % 100) ++ of_month in
    record {
      days = days;
      digits = (
        refl,
        two_pass (y / 100) of_year (omega arith) (two_pass (y % 100) of_month (omega arith) (two_pass m of_day (omega arith) (two_pass d hour (omega arith)
            (two_pass (clock / 3600) minute (omega arith) (two_pass (clock / 60 % 60) second (omega arith)
            (two_pass (clock % 60) [] (omega arith) (All-nil (λ (c : ℕ). is_ascii_digit c ≡ true)))))))),
      );
      date = day_by y m d days _ _ _ is (omega arith) (omega arith) (omega arith);
      moment = record { clock = (omega arith, omega arith, omega arith); value = value ∙ omega arith };
    }

-- ---- one time to a text

pos_same : (a b : ℕ) → pos a ≡ pos b → a ≡ b
pos_same a b e = cc e

pub dates_agree : (text : List ℕ) (a b : ℕ) → IsDateText text a → IsDateText text b → a ≡ b
dates_agree text a b one other =
    let same : one.days ≡ other.days = pos_same _ _ (sym one.date.after ∙ other.date.after) in
    let x = one.moment.value in
    let y = other.moment.value in
    omega (arith, same, x, y)

pub times_agree : (text : List ℕ) (a b : ℕ) → IsTimeText text a → IsTimeText text b → a ≡ b
times_agree text a b (inl one) (inl other) = one.2 ∙ ap (λ n. n % time_count) (dates_agree text one.0 other.0 one.1 other.1) ∙ sym other.2
times_agree text a b (inl one) (inr other) = absurd (other.0 one.1.digits.0)
times_agree text a b (inr one) (inl other) = absurd (one.0 other.1.digits.0)
times_agree text a b (inr one) (inr other) = sym one.1.1 ∙ other.1.1

moment_by : (days h m s days′ h′ m′ s′ seconds : ℕ) → IsMoment days h m s seconds → days′ ≡ days → h′ ≡ h → m′ ≡ m → s′ ≡ s → IsMoment days′ h′ m′ s′ seconds
moment_by days h m s days′ h′ m′ s′ seconds is ed eh em es = rw (ed, eh, em, es) is

-- a date with a time of day, or none
pub whole : (text : List ℕ) (days h m s : ℕ) (r : Option ℕ) → length text ≡ 14 → AllPass is_ascii_digit text
    → IsDay (100 * two_at text 0 + two_at text 2) (two_at text 4) (two_at text 6) days → h ≡ two_at text 8 → m ≡ two_at text 10 → s ≡ two_at text 12
    → MatchOption r ((seconds : ℕ) → ¬ (IsMoment days h m s seconds)) (IsMoment days h m s)
    → MatchOption r ((seconds : ℕ) → ¬ (IsDateText text seconds)) (IsDateText text)
whole text days h m s (Some x) size pass day eh em es moment =
    record { days = days; digits = (size, pass); date = day; moment = moment_by days h m s days _ _ _ x moment refl (sym eh) (sym em) (sym es) }
whole text days h m s None size pass day eh em es none = λ seconds own.
    let same : days ≡ own.days = pos_same _ _ (sym day.after ∙ own.date.after) in
    none seconds (moment_by own.days _ _ _ days h m s seconds own.moment same eh em es)
