-- A name that is written without the labels of an origin is one word, and is read as that name.
use Rattle.std.proofs.Common.{◌≡◌, ◌≢◌, ℕ, suc, ◌+◌, ◌-◌, ◌<◌, ◌≤◌, Bool, true, false, List, [], ◌∷◌, ◌++◌, length, refl, sym, ap, ◌∙◌, subst, arith, append_assoc, append-nil, length-append, inl, inr}
use Rattle.std.specs.Prelude.{nat_le, nat_lt, if◌then◌else◌, flat_map, Some, None, Ok, Err}
use Rattle.std.specs.List.{AllByRecursion}
use Rattle.std.proofs.lemmas.List.{take_at}
use Rattle.std.proofs.lemmas.List.Sums.{sum_by-append}
use Rattle.dnw_base.specs.Labels.{IsLabel}
use Rattle.dnw_base.specs.Names.{AreLabels, NameValue, encoded_size}
use Rattle.dnw_name_form.specs.Edits.{with_labels}
use Rattle.dnw_name_form.specs.LabelOrder.{AreOctets}
use Rattle.dnw_name_text.specs.NameReading.{Parsed, completed_at, labels_of_text, parsed_then}
use Rattle.dnw_name_text.specs.NameTexts.{full_name_text, label_octets, labels_text, name_octet, relative_name_text}
use Rattle.dnw_name_text.proofs.Joining.{dot_after_each, dotted, joined_cons}
use Rattle.dnw_name_text.proofs.NamesBack.{names}
use Rattle.dnw_zone_data.specs.NameReading.{named_at}
use Rattle.dnw_zone_data.specs.Words.{begins_with_quote, is_end, plain_len, word_len}
use Rattle.dnw_zone_data.proofs.NamesBack.{label_len, name_is, name_len}
use Rattle.dnw_zone_data.proofs.Plain.{end_plain, plain_word_len, unquoted_len}
use Rattle.dnw_zone_file.specs.Entries.{owner_at}
use Rattle.dnw_zone_file.specs.Inside.ShortTexts.{before_ending}
use Rattle.dnw_zone_file.specs.ShortLines.{IsShortName}
use Rattle.dnw_zone_file.proofs.Kept.{Keeps, keeps_both, keeps_label, keeps_name, keeps_none, keeps_octet, keeps_then}
use Rattle.dnw_zone_file.proofs.WrittenLines.{begins_owner, no_quote, octet_begins, owner_begins}
use Rattle.dnw_zone_values.specs.Octets.{IsOctets}
use Rattle.dnw_zone_record.specs.declared.scan.Place.TheVariants.{Words}

-- The text is one word, which is read with the origin as the name with these labels.
pub record IsOwnerWord (origin : NameValue) (labels : List (List ℕ)) (w : List ℕ) : Type 0 where
  pub begins : (rest : List ℕ) → begins_owner (w ++ rest) ≡ true
  pub size : (rest : List ℕ) → is_end rest ≡ true → word_len (w ++ rest) ≡ length w
  pub named : named_at (Some origin) w ≡ Some labels
  pub kept : Keeps Words w Words

-- ---- one word

dotted_len : (labels : List (List ℕ)) (rest : List ℕ) → AllByRecursion IsOctets labels → is_end rest ≡ true
    → plain_len false (flat_map dotted labels ++ rest) ≡ length (flat_map dotted labels)
dotted_len [] rest h end = end_plain rest end
dotted_len (label ∷ labels) rest h end =
    let more = dotted_len labels rest h.1 end in
    ap (plain_len false) (append_assoc (dotted label) (flat_map dotted labels) rest)
    ∙ omega (arith, label_len label (flat_map dotted labels ++ rest) h.0, more, length-append (label_octets label) (flat_map dotted labels))

joined_begins : (label : List ℕ) (labels : List (List ℕ)) (rest : List ℕ) → IsLabel label → begins_owner (relative_name_text (label ∷ labels) ++ rest) ≡ true
joined_begins [] labels rest are = absurd (omega (arith, are.not_empty))
joined_begins (o ∷ label) labels rest are =
    let joined : relative_name_text ((o ∷ label) ∷ labels) ++ rest ≡ name_octet o ++ (label_octets label ++ (flat_map dotted labels ++ rest)) =
    ap (λ (xs : List ℕ). xs ++ rest) (joined_cons (o ∷ label) labels) ∙ simp append_assoc in
    ap begins_owner joined ∙ octet_begins o _

unquoted : (w : List ℕ) → begins_owner w ≡ true → begins_with_quote w ≡ false
unquoted [] h = refl
unquoted (c ∷ cs) h = grind arith

relative_size : (label : List ℕ) (labels : List (List ℕ)) (rest : List ℕ) → IsLabel label → AllByRecursion IsOctets (label ∷ labels) → is_end rest ≡ true
    → word_len (relative_name_text (label ∷ labels) ++ rest) ≡ length (relative_name_text (label ∷ labels))
relative_size label labels rest are h end =
    let joined = joined_cons label labels in
    let whole : relative_name_text (label ∷ labels) ++ rest ≡ label_octets label ++ (flat_map dotted labels ++ rest) =
    ap (λ (xs : List ℕ). xs ++ rest) joined ∙ append_assoc (label_octets label) (flat_map dotted labels) rest in
    let w = relative_name_text (label ∷ labels) ++ rest in
    unquoted_len w (unquoted w (joined_begins label labels rest are)) ∙ ap (plain_len false) whole
    ∙ omega (arith, label_len label (flat_map dotted labels ++ rest) h.0, dotted_len labels rest h.1 end, ap length joined, length-append (label_octets label) (flat_map dotted labels))

dotted_kept : (labels : List (List ℕ)) → AllByRecursion IsOctets labels → Keeps Words (flat_map dotted labels) Words
dotted_kept [] h = keeps_none Words
dotted_kept (label ∷ labels) h =
    keeps_both (dotted label) (flat_map dotted labels) Words Words Words (keeps_then 46 (label_octets label) Words Words Words refl (keeps_label label h.0)) (dotted_kept labels h.1)

relative_kept : (labels : List (List ℕ)) → AllByRecursion IsOctets labels → Keeps Words (relative_name_text labels) Words
relative_kept [] h = keeps_octet Words Words 64 refl
relative_kept (label ∷ labels) h =
    subst (λ (t : List ℕ). Keeps Words t Words) (sym (joined_cons label labels))
    (keeps_both (label_octets label) (flat_map dotted labels) Words Words Words (keeps_label label h.0) (dotted_kept labels h.1))

-- ---- and that name

octets : (label : List ℕ) → IsOctets label → AreOctets label
octets [] h = tt
octets (o ∷ label) h = (h 0, octets label (λ i. h (suc i)))

pub all_octets : (labels : List (List ℕ)) → AllByRecursion IsOctets labels → AllByRecursion AreOctets labels
all_octets [] h = tt
all_octets (label ∷ labels) h = (octets label h.0, all_octets labels h.1)

labels_first : (front more : List (List ℕ)) → AllByRecursion IsLabel (front ++ more) → AllByRecursion IsLabel front
labels_first [] more h = tt
labels_first (label ∷ front) more h = (h.0, labels_first front more h.1)

octets_first : (front more : List (List ℕ)) → AllByRecursion IsOctets (front ++ more) → AllByRecursion IsOctets front
octets_first [] more h = tt
octets_first (label ∷ front) more h = (h.0, octets_first front more h.1)

front_fits : (front more : List (List ℕ)) → encoded_size (front ++ more) ≤ 255 → encoded_size front ≤ 255
front_fits front more fit = omega (arith, fit, sum_by-append (λ (l : List ℕ). length l + 1) front more)

not_less : (a b : ℕ) → b ≤ a → nat_lt a b ≡ false
not_less a b h = grind arith

completed : (front origin : List (List ℕ)) → encoded_size (front ++ origin) ≤ 255 → with_labels front origin ≡ Ok (front ++ origin)
completed front [] fit = ap Ok (sym (append-nil front))
completed front (label ∷ origin) fit =
    let longer = append_assoc front (label ∷ []) origin in
    let whole : encoded_size ((front ++ label ∷ []) ++ origin) ≤ 255 = omega (arith, fit, ap (λ (ls : List (List ℕ)). encoded_size ls) longer) in
    rw (not_less 255 (encoded_size (front ++ label ∷ [])) (front_fits (front ++ label ∷ []) origin whole))
    (completed (front ++ label ∷ []) origin whole ∙ ap Ok longer)

-- the labels of what a text gives, and whether they are fully qualified
parsed_labels : Parsed NameValue → List (List ℕ)
parsed_labels (Ok name) = name.labels
parsed_labels (Err error) = []

parsed_flag : Parsed NameValue → Bool
parsed_flag (Ok name) = name.is_fqdn
parsed_flag (Err error) = true

-- the labels of a text that is a relative name without an origin
relative_labels : (labels : List (List ℕ)) (parsed : Parsed (List (List ℕ) × Bool)) (end : ℕ)
    → parsed_then parsed (completed_at end None) ≡ Ok (record { is_fqdn = false; labels = labels }) → parsed ≡ Ok (labels, false)
unfolding parsed_labels parsed_flag
relative_labels labels (Ok (found, true)) end h = let no : true ≡ false = ap parsed_flag h in absurd cc
relative_labels labels (Ok (found, false)) end h = let same : found ≡ labels = ap parsed_labels h in ap (λ (ls : List (List ℕ)). Ok (ls, false)) same
relative_labels labels (Err error) end h = let no : true ≡ false = ap parsed_flag h in absurd cc

relative_named : (origin : NameValue) (front : List (List ℕ)) → AreLabels (front ++ origin.labels) → AllByRecursion IsOctets front → begins_with_quote (relative_name_text front) ≡ false
    → named_at (Some origin) (relative_name_text front) ≡ Some (front ++ origin.labels)
relative_named origin front are h quote =
    let w = relative_name_text front in
    let own : AreLabels front = record { each = labels_first front origin.labels are.each; fit = front_fits front origin.labels are.fit } in
    let read = relative_labels front (labels_of_text w) (length w) (names (record { is_fqdn = false; labels = front }) own (all_octets front h)) in
    rw (quote, read, completed front origin.labels are.fit) refl

relative_word : (origin : NameValue) (front : List (List ℕ)) → AreLabels (front ++ origin.labels) → AllByRecursion IsOctets front
    → IsOwnerWord origin (front ++ origin.labels) (relative_name_text front)
relative_word origin [] are h = record {
  begins = λ rest. refl;
  size = λ rest end. plain_word_len (64 ∷ []) rest refl end;
  named = relative_named origin [] are tt refl;
  kept = relative_kept [] tt;
}
relative_word origin (label ∷ front) are h =
    let w = relative_name_text (label ∷ front) in
    let begins : begins_owner w ≡ true = ap begins_owner (sym (append-nil w)) ∙ joined_begins label front [] are.each.0 in
    record {
      begins = λ rest. joined_begins label front rest are.each.0;
      size = λ rest end. relative_size label front rest are.each.0 h end;
      named = relative_named origin (label ∷ front) are h (unquoted w begins);
      kept = relative_kept (label ∷ front) h;
    }

pub full_word : (origin : NameValue) (labels : List (List ℕ)) → AreLabels labels → AllByRecursion IsOctets labels → IsOwnerWord origin labels (full_name_text labels)
full_word origin labels are h = record {
  begins = λ rest. owner_begins labels rest are.each;
  size = λ rest end. name_len labels rest are.each h end;
  named = name_is (Some origin) labels are h;
  kept = keeps_name labels h;
}

pub short_word : (origin : NameValue) (labels : List (List ℕ)) (w : List ℕ) → AreLabels labels → AllByRecursion IsOctets labels → IsShortName origin.labels labels w
    → IsOwnerWord origin labels w
short_word origin labels w are h (inl (front, (some, whole), text)) =
    let own = octets_first front origin.labels (subst (AllByRecursion IsOctets) whole h) in
    subst (IsOwnerWord origin labels) (sym text)
    (subst (λ (ls : List (List ℕ)). IsOwnerWord origin ls (relative_name_text front)) (sym whole) (relative_word origin front (subst AreLabels whole are) own))
short_word origin labels w are h (inr (none, text)) = subst (IsOwnerWord origin labels) (sym text) (full_word origin labels are h)

-- the name that it gives, where no quoted string is meant
pub word_owner : (origin : NameValue) (labels : List (List ℕ)) (w : List ℕ) → IsOwnerWord origin labels w → owner_at origin w ≡ Some labels
word_owner origin labels w is =
    let begins : begins_owner w ≡ true = ap begins_owner (sym (append-nil w)) ∙ is.begins [] in
    ap (λ (b : Bool). if b then None else named_at (Some origin) w) (no_quote w begins) ∙ is.named

-- ---- a name is cut

labels_both : (front origin : List (List ℕ)) → labels_text (front ++ origin) ≡ labels_text front ++ labels_text origin
labels_both [] origin = refl
labels_both (label ∷ front) origin =
    ap (λ (t : List ℕ). (label_octets label ++ 46 ∷ []) ++ t) (labels_both front origin) ∙ sym (append_assoc (label_octets label ++ 46 ∷ []) (labels_text front) (labels_text origin))

full_is : (labels : List (List ℕ)) → labels ≢ [] → full_name_text labels ≡ labels_text labels
full_is [] some = absurd (some refl)
full_is (label ∷ labels) some = refl

-- what is before the text of an origin is a relative name, and a dot
cut_front : (front : List (List ℕ)) (ending : List ℕ) → before_ending (labels_text front ++ ending) (length ending) ≡ relative_name_text front
cut_front [] ending = let same : nat_le (length ending) (length ending) ≡ true = grind arith in rw same refl
cut_front (label ∷ front) ending =
    let short = relative_name_text (label ∷ front) in
    let seam : labels_text (label ∷ front) ++ ending ≡ short ++ (46 ∷ ending) =
    ap (λ (t : List ℕ). t ++ ending) (sym (dot_after_each label front)) ∙ append_assoc short (46 ∷ []) ending in
    let size = length-append short (46 ∷ ending) in
    let more : nat_le (length (short ++ (46 ∷ ending))) (length ending) ≡ false = less (length (short ++ (46 ∷ ending))) (length ending) (omega (arith, size)) in
    let left : length short ≡ length (short ++ (46 ∷ ending)) - length ending - 1 = omega (arith, size) in
    ap (λ (t : List ℕ). before_ending t (length ending)) seam ∙ rw more (take_at short (46 ∷ ending) _ left)
  where
    less : (a b : ℕ) → b < a → nat_le a b ≡ false
    less a b h = grind arith

pub cut_name : (origin name front : List (List ℕ)) (whole ending text : List ℕ) → origin ≢ [] → name ≡ front ++ origin → whole ≡ full_name_text name → ending ≡ full_name_text origin
    → text ≡ before_ending whole (length ending) → text ≡ relative_name_text front
cut_name origin name front whole ending text some is whole_is ending_is text_is =
    let some_name : name ≢ [] = λ none. some_of front origin some (sym is ∙ none) in
    let all : whole ≡ labels_text front ++ ending =
    whole_is ∙ full_is name some_name ∙ ap (λ (ls : List (List ℕ)). labels_text ls) is ∙ labels_both front origin ∙ ap (λ (t : List ℕ). labels_text front ++ t) (sym (ending_is ∙ full_is origin some)) in
    text_is ∙ ap (λ (t : List ℕ). before_ending t (length ending)) all ∙ cut_front front ending
  where
    some_of : (front origin : List (List ℕ)) → origin ≢ [] → front ++ origin ≢ []
    some_of [] origin some none = some none
    some_of (label ∷ front) origin some none = absurd cc
