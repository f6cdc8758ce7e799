-- Octets that are appended are the field that they make.
use Rattle.std.proofs.Common.{◌≡◌, inl, inr, ℕ, Bool, true, false, List, [], ◌∷◌, IfOk, refl, sym, ap, ◌∙◌}
use Rattle.std.specs.Prelude.{Option, Result, Ok, Err}
use Rattle.std.specs.List.{filter, list_all}
use Rattle.std.proofs.lemmas.Bool.{cases_Bool}
use Rattle.dnw_base.specs.Names.{NameValue}
use Rattle.dnw_data.specs.Values.{name, octets}
use Rattle.dnw_zone_data.specs.Appending.{AppendsOne}
use Rattle.dnw_zone_data.specs.NameReading.{AppendsName, named_at}
use Rattle.dnw_zone_data.specs.Parsing.{IsNameField}
use Rattle.dnw_zone_values.specs.Inside.Steps.{PushesOne}

pub as_octets : {E : Type 0} (Is : List ℕ → Type 0) (old new : List ℕ) (read : Result Bool E) → IfOk read (PushesOne Is old new)
    → IfOk read (AppendsOne (λ value. (own : List ℕ) × Is own × (value ≡ octets own)) old new)
as_octets Is old new (Ok true) h = (octets h.0, (h.0, h.1, refl), h.2)
as_octets Is old new (Ok false) h = λ value own. h own.0 own.1
as_octets Is old new (Err e) h = h

-- all pass a test
pub all_kept : (p : ℕ → Bool) (xs : List ℕ) → list_all p xs ≡ true → filter p xs ≡ xs
all_kept p [] all = refl
all_kept p (x ∷ xs) all = elim (cases_Bool (p x)) [
  | inl e ↦ rw e (ap (λ (ys : List ℕ). x ∷ ys) (all_kept p xs (rw e at all)))
  | inr e ↦ absurd (let none : false ≡ true = rw e at all in cc)
]

pub as_name : {E : Type 0} (origin : Option NameValue) (text old new : List ℕ) (read : Result Bool E)
    → IfOk read (AppendsName (named_at origin text) old new) → IfOk read (AppendsOne (IsNameField origin text) old new)
as_name origin text old new (Ok true) h = (name h.0, (h.0, h.1, refl), h.2)
as_name origin text old new (Ok false) h = λ value own. absurd (let none = sym own.1 ∙ h.0 in cc)
as_name origin text old new (Err e) h = h
