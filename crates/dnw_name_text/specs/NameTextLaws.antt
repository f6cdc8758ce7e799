-- What is printed of a name is read as the same name (RFC 1035, section 5.1). So no text is two names, and no name has the text of
-- another.
use Rattle.std.specs.Prelude.{◌≡◌, ℕ, true, List, Option, None, Ok}
use Rattle.std.specs.List.{AllByRecursion}
use Rattle.dnw_base.specs.Names.{NameValue, AreLabels}
use Rattle.dnw_name_form.specs.LabelOrder.{AreOctets}
use Rattle.dnw_name_text.specs.NameTexts.{full_name_text, text_of_name}
use Rattle.dnw_name_text.specs.NameReading.{name_of_text}

-- each name, fully qualified or not
abbrev pub NamesComeBack : Type 0
NamesComeBack = (name : NameValue) → AreLabels name.labels → AllByRecursion AreOctets name.labels
    → name_of_text None (text_of_name name) ≡ Ok name

-- a fully qualified one, whatever the origin
abbrev pub FullNamesComeBack : Type 0
FullNamesComeBack = (origin : Option (List (List ℕ))) (labels : List (List ℕ)) → AreLabels labels → AllByRecursion AreOctets labels
    → name_of_text origin (full_name_text labels) ≡ Ok (record { is_fqdn = true; labels = labels })
