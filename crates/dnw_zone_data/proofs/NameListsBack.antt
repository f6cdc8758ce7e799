-- Lists of names are read as they were printed.
use Rattle.std.proofs.Common.{◌≡◌, ◌≢◌, ℕ, true, List, [], ◌∷◌, ◌++◌, refl, sym, ap, ◌∙◌, subst, append-nil}
use Rattle.std.specs.Prelude.{Option, Some, None, flat_map}
use Rattle.std.specs.List.{AllByRecursion}
use Rattle.dnw_base.specs.Names.{NameValue, AreLabels, wire}
use Rattle.dnw_data.specs.declared.kind.Kind.TheVariants as kinds
use Rattle.dnw_data.specs.declared.kind.ListKind.TheVariants as lists
use Rattle.dnw_data.specs.Values.{items, names}
use Rattle.dnw_name_text.specs.NameTexts.{full_name_text}
use Rattle.dnw_zone_values.specs.Octets.{IsOctets}
use Rattle.dnw_zone_data.specs.Words.{after_spaces, is_end, word}
use Rattle.dnw_zone_data.specs.NameReading.{named_at}
use Rattle.dnw_zone_data.specs.NameLists.{AreNameWords, names_text}
use Rattle.dnw_zone_data.specs.Generic.{generic_mark}
use Rattle.dnw_zone_data.specs.DataTextLaws.{FieldComesBack}
use Rattle.dnw_zone_data.proofs.FieldsBack.{octets_parts}
use Rattle.dnw_zone_data.proofs.GatewaysBack.{name_one, wire_labels_fit}
use Rattle.dnw_zone_data.proofs.Items.{starts_twice}
use Rattle.dnw_zone_data.proofs.NamesBack.{name_is}

names_end : (listed : List (List (List ℕ))) → is_end (names_text listed) ≡ true
names_end [] = refl
names_end (labels ∷ listed) = refl

-- a name is no empty word, and none is the mark of the form of any data
is_some : (labels : List (List ℕ)) (w : List ℕ) → named_at None w ≡ Some labels → (w ≢ []) × (w ≢ generic_mark)
is_some labels w is = ((λ e. let no : None ≡ Some labels = sym (ap (named_at None) e) ∙ is in cc), λ e. let no : None ≡ Some labels = sym (ap (named_at None) e) ∙ is in cc)

front_some : (w rest : List ℕ) → w ≢ [] → w ++ rest ≢ []
front_some [] rest some e = some refl
front_some (c ∷ w) rest some e = cc

names_words : (origin : Option NameValue) (listed : List (List (List ℕ))) → AllByRecursion AreLabels listed → IsOctets (flat_map wire listed)
    → AreNameWords origin (names_text listed) listed × (word (after_spaces (names_text listed)) ≢ generic_mark)
names_words origin [] are h = (refl, λ e. cc)
names_words origin (labels ∷ listed) are h =
    let parts = octets_parts (wire labels) (flat_map wire listed) h in
    let fit = wire_labels_fit labels parts.0 in
    let w = full_name_text labels in
    let rest = names_text listed in
    let end = names_end listed in
    let one = name_one labels are.0 fit in
    let some = is_some labels w (name_is None labels are.0 fit) in
    let more = names_words origin listed are.1 parts.1 in
    rw (one.begins rest end, one.whole rest end, one.left rest end)
    ((front_some w rest some.0, name_is origin labels are.0 fit, more.0), some.1)

words_start : (origin : Option NameValue) (text : List ℕ) (listed : List (List (List ℕ))) → AreNameWords origin text listed → AreNameWords origin (after_spaces text) listed
words_start origin text [] are = starts_twice text ∙ are
words_start origin text (labels ∷ listed) are = rw (starts_twice text) are

pub names_back : (own : List ℕ) → IsOctets own → FieldComesBack (kinds.List lists.Names) (names (items lists.Names own))
names_back own h origin way printed rest (listed, are, e, p) end =
    let none : rest ≡ [] = end.0 refl in
    let words = names_words origin listed are (subst IsOctets e h) in
    rw (none, p, append-nil) (((listed, words_start origin (names_text listed) listed words.0, ap (λ (xs : List ℕ). names (items lists.Names xs)) e), refl), words.1, names_end listed)
