-- Strings, octet by octet.
use Rattle.std.specs.Prelude.{◌≡◌, ◌<◌, ◌≤◌, ℕ, suc, ◌+◌, ◌-◌, ◌*◌, Bool, true, false, ◌&&◌, ◌||◌, ◌==◌, nat_lt, if◌then◌else◌, ⊤, List, [], ◌∷◌, ◌++◌, length, Option, Some, None, option_map}
use Rattle.std.specs.Char.{is_ascii_digit}
use Rattle.dnw_zone_values.specs.Strings.{quote, backslash, Plain, Escaped, octets_from, with_octet}

-- the octets of a text whose first character, which is no closing quote, is given
abbrev pub octets_at : Bool → ℕ → List ℕ → Option (List ℕ)
octets_at quoted c cs =
    if c == backslash then octets_from quoted Escaped cs else with_octet c (octets_from quoted Plain cs)

-- the octet that three digits write
abbrev pub decimal_octet : ℕ → ℕ → ℕ → Option ℕ
decimal_octet a b c =
    if is_ascii_digit b && (is_ascii_digit c && nat_lt (100 * (a - 48) + 10 * (b - 48) + (c - 48)) 256)
    then Some (100 * (a - 48) + 10 * (b - 48) + (c - 48))
    else None

-- an octet that may stand for something else than itself
abbrev pub is_string_mark : ℕ → Bool
is_string_mark c = c == quote || c == backslash

-- the number of octets before the first one of these
abbrev pub string_run_len : List ℕ → ℕ
string_run_len [] = 0
string_run_len (c ∷ cs) = if is_string_mark c then 0 else suc (string_run_len cs)

-- the octets that were found, and after them these
abbrev pub after : List ℕ → Option (List ℕ) → Option (List ℕ)
after found octets = option_map (λ own. found ++ own) octets

-- no octets, or more than so many
abbrev pub IsNoText : ℕ → Option (List ℕ) → Type 0
IsNoText max (Some string) = max < length string
IsNoText max None = ⊤

abbrev pub KeepsFront : List ℕ → List ℕ → Type 0
KeepsFront old new = (own : List ℕ) × (new ≡ old ++ own)

-- At most so many octets of a text are appended; or it has none, and some may be appended.
abbrev pub Pushes : ℕ → Option (List ℕ) → List ℕ → List ℕ → Bool → Type 0
Pushes max text old new true = (own : List ℕ) × (text ≡ Some own) × (length own ≤ max) × (new ≡ old ++ own)
Pushes max text old new false = IsNoText max text × KeepsFront old new

-- The octets of a text are appended; or it has none, and some may be appended.
abbrev pub PushesAll : Option (List ℕ) → List ℕ → List ℕ → Bool → Type 0
PushesAll text old new true = (own : List ℕ) × (text ≡ Some own) × (new ≡ old ++ own)
PushesAll text old new false = (text ≡ None) × KeepsFront old new
