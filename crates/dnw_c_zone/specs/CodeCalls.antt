-- What the functions for C get of codes, serial numbers and times, and why they fail.
use Rattle.std.specs.Prelude.{◌≡◌, ◌⊎◌, ℕ, ℤ, List, length, Option, Some, None, Result, MatchResult, IsUtf8}
use Rattle.std.specs.declared.cmp.Ordering.{Ordering}
use Rattle.dnw_base.specs.Serials.{serial_cmp}
use Rattle.dnw_c_base.specs.Results.{PutsWithin}
use Rattle.dnw_c_base.specs.Signs.{sign}
use Rattle.dnw_c_base.specs.declared.failure.Failure.{Failure}
use Rattle.dnw_zone_lexer.specs.Times.{IsNoTtl, time_seconds}
use Rattle.dnw_c_base.specs.declared.failure.Failure.TheVariants.{NotOrdered, NotUtf8, BadTime}

-- the bytes of the longest texts of a type or a class, as `CLASS65535` (RFC 3597, section 5)
abbrev pub max_code_text : ℕ
max_code_text = 10

-- the text of a type or a class is put
abbrev pub PutsCode : List ℕ → List ℕ → List ℕ → Result ℕ Failure → Type 0
PutsCode text old new result = PutsWithin max_code_text text (length text) old new result

-- A text gives no value: it is not UTF-8, or the definition has none for it, and then this is the failure.
abbrev pub FailsToGive : {A : Type 0} → (List ℕ → Option A) → Failure → List ℕ → Failure → Type 0
FailsToGive value_of reason text failure =
    ((¬ (IsUtf8 text)) × (failure ≡ NotUtf8)) ⊎ (IsUtf8 text × (value_of text ≡ None) × (failure ≡ reason))

-- The code of the value that a text gives is returned.
abbrev pub ParsesCode : {A : Type 0} → (List ℕ → Option A) → (A → ℕ) → Failure → List ℕ → Result ℕ Failure → Type 0
ParsesCode {A} value_of code_of reason text result =
    MatchResult result (λ code. (value : A) × (value_of text ≡ Some value) × (code ≡ code_of value)) (FailsToGive value_of reason text)

-- The way that one serial number comes after another is returned, unless there is none.
abbrev pub ComparesSerials : ℕ → ℕ → Result ℤ Failure → Type 0
ComparesSerials left right result =
    MatchResult result (λ order. (way : Ordering) × (serial_cmp left right ≡ Some way) × (order ≡ sign way))
    (λ failure. (failure ≡ NotOrdered) × (serial_cmp left right ≡ None))

-- The seconds of a time to live are returned. Else the text is not UTF-8, or no time, or one of too many seconds.
abbrev pub ParsesTime : List ℕ → Result ℕ Failure → Type 0
ParsesTime text result =
    MatchResult result (λ seconds. time_seconds text ≡ Some seconds)
    (λ failure. ((¬ (IsUtf8 text)) × (failure ≡ NotUtf8)) ⊎ (IsUtf8 text × IsNoTtl (time_seconds text) × (failure ≡ BadTime)))
