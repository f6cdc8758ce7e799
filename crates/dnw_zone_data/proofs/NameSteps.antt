-- Names of a list, one after another.
use Rattle.std.proofs.Common.{◌≡◌, ◌≢◌, ℕ, ◌<◌, List, [], ◌∷◌, ◌++◌, length, sym, ap, ◌∙◌, subst, arith}
use Rattle.std.specs.Prelude.{Option, Some, None}
use Rattle.dnw_base.specs.Names.{NameValue}
use Rattle.dnw_zone_data.specs.Words.{after_spaces, after_word, word}
use Rattle.dnw_zone_data.specs.NameReading.{named_at}
use Rattle.dnw_zone_data.specs.NameLists.{AreNameWords}
use Rattle.dnw_zone_data.specs.Inside.NameWords.{LeadToNames}

-- ---- parsing

pub name_some : (origin : Option NameValue) (w : List ℕ) (labels : List (List ℕ)) → named_at origin w ≡ Some labels → 0 < length w
name_some origin [] labels is = let no : None ≡ Some labels = is in cc
name_some origin (c ∷ w) labels is = omega arith

pub names_more : (origin : Option NameValue) (text : List ℕ) (done : List (List (List ℕ))) (left : List ℕ) (labels : List (List ℕ)) → LeadToNames origin text done left → left ≢ []
    → named_at origin (word left) ≡ Some labels → LeadToNames origin text (done ++ labels ∷ []) (after_spaces (after_word left))
names_more origin text [] left labels h some is = (
  subst (λ (xs : List ℕ). xs ≢ []) h some,
  subst (λ (xs : List ℕ). named_at origin (word xs) ≡ Some labels) h is,
  ap (λ (xs : List ℕ). after_spaces (after_word xs)) h,
)
names_more origin text (d ∷ done) left labels h some is = (h.0, h.1, names_more origin (after_word (after_spaces text)) done left labels h.2 some is)

pub names_end : (origin : Option NameValue) (text : List ℕ) (done : List (List (List ℕ))) (left : List ℕ) → LeadToNames origin text done left → left ≡ []
    → AreNameWords origin text done
names_end origin text [] left h none = sym h ∙ none
names_end origin text (d ∷ done) left h none = (h.0, h.1, names_end origin (after_word (after_spaces text)) done left h.2 none)

pub names_stop : (origin : Option NameValue) (text : List ℕ) (done listed : List (List (List ℕ))) (left : List ℕ) → LeadToNames origin text done left → left ≢ []
    → named_at origin (word left) ≡ None → AreNameWords origin text listed → ⊥
names_stop origin text [] [] left h some none are = some (h ∙ are)
names_stop origin text [] (s ∷ listed) left h some none are =
    let no : None ≡ Some s = sym (subst (λ (xs : List ℕ). named_at origin (word xs) ≡ None) h none) ∙ are.1 in cc
names_stop origin text (d ∷ done) [] left h some none are = h.0 are
names_stop origin text (d ∷ done) (s ∷ listed) left h some none are = names_stop origin (after_word (after_spaces text)) done listed left h.2 some none are.2
