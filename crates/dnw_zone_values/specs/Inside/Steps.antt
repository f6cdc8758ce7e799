-- Items of a list, one after another.
use Rattle.std.specs.Prelude.{ℕ, ◌≡◌, ◌<◌, ◌+◌, ◌&&◌, nat_le, Bool, true, false, ⊤, List, [], ◌∷◌, ◌++◌, length, Option, Some, None, option_map}
use Rattle.dnw_zone_values.specs.declared.items.After.{After}
use Rattle.dnw_zone_values.specs.declared.items.After.TheVariants.{End, Items, Fault}
use Rattle.dnw_zone_values.specs.CommaLists.{items_of}
use Rattle.dnw_zone_values.specs.Params.{ParamValue}

-- The first item of a text, and what is after it.
abbrev pub TakesListItem : List ℕ → List ℕ → After → Type 0
TakesListItem text item End = items_of text ≡ Some (item ∷ [])
TakesListItem text item (Items rest) =
    (items_of text ≡ option_map (λ items. item ∷ items) (items_of rest.now)) × (length rest.now < length text)
TakesListItem text item Fault = items_of text ≡ None

-- The octets of an item are appended, or there are none.
abbrev pub PushesOne : (List ℕ → Type 0) → List ℕ → List ℕ → Bool → Type 0
PushesOne Is old new true = (own : List ℕ) × Is own × (new ≡ old ++ own)
PushesOne Is old new false = (own : List ℕ) → ¬ (Is own)

-- all keys are below a number
abbrev pub AreBelow : ℕ → List ParamValue → Type 0
AreBelow n [] = ⊤
AreBelow n (q ∷ qs) = (q.key < n) × AreBelow n qs

-- each key is above the one before it, and none is below the least
abbrev pub ascend : ℕ → List ParamValue → Bool
ascend least [] = true
ascend least (p ∷ ps) = nat_le least p.key && ascend (p.key + 1) ps

-- The text is appended, or there is none and nothing is appended.
abbrev pub WritesValue : Option (List ℕ) → List ℕ → List ℕ → Bool → Type 0
WritesValue text old new true = (own : List ℕ) × (text ≡ Some own) × (new ≡ old ++ own)
WritesValue text old new false = (text ≡ None) × (new ≡ old)

-- nothing, or a text that begins with a space
abbrev pub IsSpaced : List ℕ → Type 0
IsSpaced [] = ⊤
IsSpaced (c ∷ cs) = c ≡ 32

-- These are appended: nothing, or a text that begins with a space.
abbrev pub AppendsSpaced : List ℕ → List ℕ → Type 0
AppendsSpaced old new = (own : List ℕ) × IsSpaced own × (new ≡ old ++ own)

-- The text is appended, or there is none and some may be appended.
abbrev pub PushesValue : Option (List ℕ) → List ℕ → List ℕ → Bool → Type 0
PushesValue text old new true = (own : List ℕ) × (text ≡ Some own) × (new ≡ old ++ own)
PushesValue text old new false = (text ≡ None) × AppendsSpaced old new

-- these, and after them others, if there are
abbrev pub after_these : {A : Type 0} → List A → Option (List A) → Option (List A)
after_these found others = option_map (λ own. found ++ own) others
