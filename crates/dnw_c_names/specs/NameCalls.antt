-- What the functions for C get of one name or two, and why they fail.
use Rattle.std.specs.Prelude.{◌≡◌, ◌≢◌, ◌⊎◌, ℕ, List, [], length, Option, Some, None, Result, Ok, Err, MatchResult}
use Rattle.dnw_base.specs.Limits.{max_name}
use Rattle.dnw_base.specs.Names.{NameValue, wire}
use Rattle.dnw_name_text.specs.NameReading.{name_of_text}
use Rattle.dnw_name_text.specs.NameTexts.{full_name_text}
use Rattle.dnw_name_text.specs.declared.error.NameTextError.{NameTextError}
use Rattle.dnw_name_read.specs.Reading.{NameAt}
use Rattle.dnw_c_base.specs.Failures.{number}
use Rattle.dnw_c_base.specs.Offsets.{HasNoName}
use Rattle.dnw_c_base.specs.Results.{PutsWithin, Refuses}
use Rattle.dnw_c_base.specs.WireForms.{IsFormOf, IsNoForm}
use Rattle.dnw_c_base.specs.declared.failure.Failure.{Failure}
use Rattle.dnw_c_names.specs.TextFaultCalls.{of_rule}
use Rattle.dnw_c_names.specs.declared.names.ParsedName.{ParsedName}
use Rattle.dnw_c_names.specs.declared.names.ReadName.{ReadName}

-- the text of a name that is read from a message, which is fully qualified
abbrev pub absolute_text : List (List ℕ) → List ℕ
absolute_text labels = full_name_text labels

-- The name at an offset of a message is read, and these octets of it are put, which are at most so many.
abbrev pub ReadsName : ℕ → (List (List ℕ) → List ℕ) → List ℕ → ℕ → List ℕ → List ℕ → Result ReadName Failure → Type 0
ReadsName most octets message start old new result =
    ((labels : List (List ℕ)) × (end : ℕ) × (k : ℕ) × NameAt message start labels end k
    × PutsWithin most (octets labels) (record { len = length (octets labels); end = end }) old new result)
    ⊎ Refuses (HasNoName message start) old new result

-- The octets are the wire form of an origin with these labels, whole; or there are none, and there is no origin.
abbrev pub IsOriginForm : List ℕ → Option (List (List ℕ)) → Type 0
IsOriginForm form None = form ≡ []
IsOriginForm form (Some labels) = IsFormOf form labels

-- There are octets, but they are no wire form.
abbrev pub IsNoOriginForm : List ℕ → Failure → Type 0
IsNoOriginForm form failure = (form ≢ []) × IsNoForm form failure

-- A text is no name, by a rule.
abbrev pub LacksName : List ℕ → List ℕ → Failure → Type 0
LacksName text form failure =
    (origin : Option (List (List ℕ))) × (error : NameTextError) × IsOriginForm form origin × (name_of_text origin text ≡ Err error) × (failure ≡ of_rule error.rule)

-- The wire form of the name that a text gives with an origin is put.
abbrev pub ParsesName : List ℕ → List ℕ → List ℕ → List ℕ → Result ParsedName Failure → Type 0
ParsesName text form old new result =
    ((origin : Option (List (List ℕ))) × (name : NameValue) × IsOriginForm form origin × (name_of_text origin text ≡ Ok name)
    × PutsWithin max_name (wire name.labels) (record { len = length (wire name.labels); is_fqdn = name.is_fqdn }) old new result)
    ⊎ Refuses (LacksName text form) old new result
    ⊎ Refuses (IsNoOriginForm form) old new result

-- Of the name with a wire form these octets are put, which are at most so many.
abbrev pub PutsOfForm : ℕ → (List (List ℕ) → List ℕ) → List ℕ → List ℕ → List ℕ → Result ℕ Failure → Type 0
PutsOfForm most octets form old new result =
    ((labels : List (List ℕ)) × IsFormOf form labels × PutsWithin most (octets labels) (length (octets labels)) old new result)
    ⊎ Refuses (IsNoForm form) old new result

-- One of two is no wire form: the first that is none decides.
abbrev pub FailsAsForms : List ℕ → List ℕ → Failure → Type 0
FailsAsForms left right failure = IsNoForm left failure ⊎ ((labels : List (List ℕ)) × IsFormOf left labels × IsNoForm right failure)

-- The value is so of the labels of two wire forms.
abbrev pub OfForms : {T : Type 0} → (List (List ℕ) → List (List ℕ) → T → Type 0) → List ℕ → List ℕ → Result T Failure → Type 0
OfForms Is left right result =
    MatchResult result (λ value. (a b : List (List ℕ)) × IsFormOf left a × IsFormOf right b × Is a b value) (FailsAsForms left right)

-- The offset at which a text is against a rule is stored, and the rule has this number; or the text gives a name, and the number is 0.
-- If the origin is no wire form, the number is that of its failure.
abbrev pub FindsFault : List ℕ → List ℕ → ℕ → ℕ → ℕ → Type 0
FindsFault text form old new code =
    ((origin : Option (List (List ℕ))) × (name : NameValue) × IsOriginForm form origin × (name_of_text origin text ≡ Ok name) × (new ≡ old) × (code ≡ 0))
    ⊎ ((origin : Option (List (List ℕ))) × (error : NameTextError) × IsOriginForm form origin × (name_of_text origin text ≡ Err error)
    × (new ≡ error.offset) × (code ≡ number (of_rule error.rule)))
    ⊎ ((failure : Failure) × IsNoOriginForm form failure × (new ≡ old) × (code ≡ number failure))
