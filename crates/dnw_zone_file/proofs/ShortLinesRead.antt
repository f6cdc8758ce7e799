-- A line that is written of a record after other entries begins a text whose first entry is that record, and is read as no other. And
-- `$ORIGIN` and `$TTL`.
use Rattle.std.proofs.Common.{◌≡◌, ◌≤◌, ◌<◌, ◌^◌, ◌⊎◌, ◌==◌, ℕ, suc, Bool, true, false, List, [], ◌∷◌, ◌++◌, length, take, drop, codes, decimal, refl, sym, ap, ◌∙◌, subst, arith, append-nil, length-append, inl, inr}
use Rattle.std.specs.Prelude.{not, Option, Some, None}
use Rattle.std.specs.Char.{is_ascii_digit}
use Rattle.std.specs.List.{AllByRecursion}
use Rattle.std.specs.Option.{option_or}
use Rattle.std.proofs.lemmas.Bool.{cases_Bool, eqb-true, ne_eqb}
use Rattle.std.proofs.lemmas.Fmt.{decimal_nonempty}
use Rattle.std.proofs.lemmas.List.{drop_at, take_at}
use Rattle.dnw_base.specs.DnsClasses.{class_text}
use Rattle.dnw_base.specs.Names.{AreLabels}
use Rattle.dnw_base.specs.RecordTypes.{type_name, type_text}
use Rattle.dnw_base.specs.declared.dns_class.DNSClass.{DNSClass}
use Rattle.dnw_base.specs.declared.dns_class.DNSClass.TheVariants.{OPT, Unknown}
use Rattle.dnw_base.specs.declared.record_type.RecordType.{RecordType}
use Rattle.dnw_base.specs.declared.record_type.RecordType.TheVariants as rr
use Rattle.dnw_base.proofs.PrintedClasses.{classes_come_back}
use Rattle.dnw_base.proofs.PrintedTypes.{text_by, types_come_back}
use Rattle.dnw_name_text.specs.NameTexts.{full_name_text}
use Rattle.dnw_name_text.proofs.NamesBack.{full_names}
use Rattle.dnw_record.specs.Records.{RecordValue}
use Rattle.dnw_zone_data.specs.Words.{after_spaces, after_word, is_end, is_space, word, word_len}
use Rattle.dnw_zone_data.proofs.FieldsBack.{type_other, type_plain, type_some}
use Rattle.dnw_zone_data.proofs.NumberFormsBack.{period}
use Rattle.dnw_zone_data.proofs.Plain.{all_plain, decimal_plain, plain_after, plain_starts, plain_utf8, plain_word}
use Rattle.dnw_zone_file.specs.declared.context.Context.{Context}
use Rattle.dnw_zone_file.specs.declared.directive.Directive.TheVariants as directives
use Rattle.dnw_zone_file.specs.declared.entry.Entry.{Entry}
use Rattle.dnw_zone_file.specs.declared.entry.Entry.TheVariants.{Nothing}
use Rattle.dnw_zone_file.specs.declared.entry.LineKind.{LineKind}
use Rattle.dnw_zone_file.specs.declared.entry.LineKind.TheVariants.{Dollar, OwnerBefore}
use Rattle.dnw_zone_file.specs.Contexts.{ttl_after, with_origin, with_ttl}
use Rattle.dnw_zone_file.specs.Directives.{IsDirective}
use Rattle.dnw_zone_file.specs.Entries.{line_kind, owner_at, IsEntry, IsEntryBy, IsNameWord, IsOnlyName, IsOnlyTtl, IsOwned, IsZoneRecord}
use Rattle.dnw_zone_file.specs.Heads.{IsZoneHead, LacksZoneTtl, max_zone_ttl}
use Rattle.dnw_zone_file.specs.ShortLines.{IsShortOwner, short_head, short_rest, short_ttl}
use Rattle.dnw_zone_file.proofs.AnyLines.{IsLine}
use Rattle.dnw_zone_file.proofs.Kept.{Keeps, keeps_both, keeps_name, keeps_plain, keeps_spaced}
use Rattle.dnw_zone_file.proofs.LinesRead.{by_owner, owner_only}
use Rattle.dnw_zone_file.proofs.ShortNames.{IsOwnerWord, all_octets, full_word, short_word, word_owner}
use Rattle.dnw_zone_file.proofs.WrittenLines.{IsPrinted, begins_owner, class_plain, no_quote, starts, plain_next, spaced_end, zone_head}
use Rattle.dnw_zone_lexer.specs.Times.{time_seconds}
use Rattle.dnw_zone_data.specs.TypeLists.{IsTypeWord}
use Rattle.dnw_zone_record.specs.RecordLines.{spaced, after_next_word, next_word, IsClassWord, IsTtlWord}
use Rattle.dnw_zone_record.proofs.LinesBack.{class_other, IsReadRecord}
use Rattle.dnw_zone_values.specs.Octets.{IsOctets}
use Rattle.dnw_zone_record.specs.Lines.{is_indented}
use Rattle.dnw_zone_record.specs.declared.scan.Place.TheVariants.{Words}

-- ---- no name of a class or a type is a time

abbrev begins_letter : List ℕ → Bool
begins_letter [] = false
begins_letter (c ∷ cs) = not (is_ascii_digit c)

letter : (c : ℕ) → not (is_ascii_digit c) ≡ true → is_ascii_digit c ≡ false
letter c h = grind arith

no_time : (w : List ℕ) (n : ℕ) → begins_letter w ≡ true → ¬ (IsTtlWord w n)
no_time [] n h is = absurd cc
no_time (c ∷ cs) n h is =
    let none : time_seconds (c ∷ cs) ≡ None = rw (letter c h) refl in
    let no : None ≡ Some n = sym none ∙ is.0 in absurd cc

class_letter : (class : DNSClass) → begins_letter (class_text class) ≡ true
class_letter (OPT size) = refl
class_letter (Unknown code) = refl
class_letter class = refl

named_letter : (record_type : RecordType) → begins_letter (type_name record_type) ≡ true
named_letter (rr.Unknown code) = refl
named_letter record_type = refl

type_letter : (record_type : RecordType) → begins_letter (type_text record_type) ≡ true
type_letter record_type = text_by begins_letter named_letter refl record_type refl

-- ---- the head

-- the class and the type alone
classed_head : (r : RecordValue) (text : List ℕ) → IsPrinted r
    → IsZoneHead (short_rest None r text) (record { ttl = None; class = Some r.class; record_type = r.record_type }) (spaced text)
classed_head r text fits =
    let rest4 = spaced text in
    let rest3 : List ℕ = 32 ∷ (type_text r.record_type ++ rest4) in
    let rest2 : List ℕ = 32 ∷ (class_text r.class ++ rest3) in
    let shape = class_plain r.class fits.class_few in
    let name = plain_next (class_text r.class) rest3 shape.0 shape.1 refl in
    let plain = type_plain r.record_type fits.type_few in
    let last = plain_next (type_text r.record_type) rest4 plain (type_some r.record_type) (spaced_end text) in
    let lacks : LacksZoneTtl rest2 = λ n is. no_time (class_text r.class) n (class_letter r.class) (subst (λ (w : List ℕ). IsTtlWord w n) name.0 is.0) in
    let also : LacksZoneTtl rest3 = λ n is. no_time (type_text r.record_type) n (type_letter r.record_type) (subst (λ (w : List ℕ). IsTtlWord w n) last.0 is.0) in
    let is_class : IsClassWord (next_word rest2) r.class =
    subst (λ (w : List ℕ). IsClassWord w r.class) (sym name.0)
    (plain_utf8 (class_text r.class) shape.0, classes_come_back r.class fits.class_few ∙ ap Some fits.same_class, class_other r.class) in
    let is_type : IsTypeWord (next_word rest3) r.record_type =
    subst (λ (w : List ℕ). IsTypeWord w r.record_type) (sym last.0)
    (plain_utf8 (type_text r.record_type) plain, types_come_back r.record_type fits.type_few ∙ ap Some fits.same_type, type_other r.record_type) in
    let (class, kind, few_seconds) = fits.zone in
    (rest3, (None, rest2, rest3, (lacks, refl), ((is_class, class), sym name.1), (also, refl)), (is_type, kind), sym last.1)

-- the time to live is written, or it is the one that is known
short_cases : (known : Option ℕ) (ttl : ℕ) → (short_ttl known ttl ≡ Some ttl) ⊎ ((short_ttl known ttl ≡ None) × (known ≡ Some ttl))
short_cases None ttl = inl refl
short_cases (Some known) ttl = elim (cases_Bool (known == ttl)) [
  | inl same ↦ inr (rw same refl, ap Some (eqb-true known ttl same))
  | inr other ↦ inl (rw other refl)
]

-- what is after the owner, with this time to live or without one
record IsRest (r : RecordValue) (text : List ℕ) (own : Option ℕ) : Type 0 where
  head_is : IsZoneHead (short_rest own r text) (record { ttl = own; class = Some r.class; record_type = r.record_type }) (spaced text)
  kept : Keeps Words (spaced text) Words → Keeps Words (short_rest own r text) Words
  blank : line_kind (is_indented (short_rest own r text)) (after_spaces (short_rest own r text)) ≡ OwnerBefore
  ends : is_end (short_rest own r text) ≡ true

-- an entry that begins with a space and a plain word
blank_kind : (w rest : List ℕ) → all_plain w ≡ true → 0 < length w → line_kind true (after_spaces (32 ∷ (w ++ rest))) ≡ OwnerBefore
blank_kind w rest plain some =
    rw (plain_starts w rest plain some, ne_eqb (length (w ++ rest)) 0 (omega (arith, length-append w rest, some))) refl

class_kept : (r : RecordValue) (text : List ℕ) → IsPrinted r → Keeps Words (spaced text) Words → Keeps Words (short_rest None r text) Words
class_kept r text fits kept =
    keeps_both (32 ∷ class_text r.class) (32 ∷ (type_text r.record_type ++ spaced text)) Words Words Words
    (keeps_spaced (class_text r.class) (keeps_plain (class_text r.class) (class_plain r.class fits.class_few).0))
    (keeps_both (32 ∷ type_text r.record_type) (spaced text) Words Words Words
    (keeps_spaced (type_text r.record_type) (keeps_plain (type_text r.record_type) (type_plain r.record_type fits.type_few))) kept)

without_time : (r : RecordValue) (text : List ℕ) → IsPrinted r → IsRest r text None
without_time r text fits =
    let shape = class_plain r.class fits.class_few in
    record {
      head_is = classed_head r text fits;
      kept = λ kept. class_kept r text fits kept;
      blank = blank_kind (class_text r.class) (32 ∷ (type_text r.record_type ++ spaced text)) shape.0 shape.1;
      ends = refl;
    }

with_time : (r : RecordValue) (text : List ℕ) → IsPrinted r → IsRest r text (Some r.ttl)
with_time r text fits =
    let few : r.ttl < 2 ^ 64 = omega (arith, fits.ttl_few) in
    let plain = decimal_plain r.ttl few in
    record {
      head_is = zone_head r text fits;
      kept = λ kept.
          keeps_both (32 ∷ decimal r.ttl) (short_rest None r text) Words Words Words (keeps_spaced (decimal r.ttl) (keeps_plain (decimal r.ttl) plain)) (class_kept r text fits kept);
      blank = blank_kind (decimal r.ttl) (short_rest None r text) plain (decimal_nonempty r.ttl few);
      ends = refl;
    }

rest_is : (before : Context) (r : RecordValue) (text : List ℕ) → IsPrinted r → IsRest r text (short_ttl before.default_ttl r.ttl)
rest_is before r text fits = elim (short_cases before.default_ttl r.ttl) [
  | inl own ↦ subst (IsRest r text) (sym own) (with_time r text fits)
  | inr none ↦ subst (IsRest r text) (sym none.0) (without_time r text fits)
]

ttl_is : (before : Context) (ttl : ℕ) → ttl_after before (short_ttl before.default_ttl ttl) ≡ Some ttl
ttl_is before ttl = elim (short_cases before.default_ttl ttl) [
  | inl own ↦ ap (λ (t : Option ℕ). ttl_after before t) own
  | inr none ↦ ap (λ (t : Option ℕ). ttl_after before t) none.0 ∙ ap (λ (t : Option ℕ). option_or t before.last_ttl) none.1
]

-- ---- the line

-- the owner of the last record
blank_line : (before : Context) (r : RecordValue) (text : List ℕ) → IsPrinted r → before.owner ≡ Some r.owner
    → IsLine before r (short_rest (short_ttl before.default_ttl r.ttl) r text) (short_rest (short_ttl before.default_ttl r.ttl) r text) text (short_head before r)
blank_line before r text fits same =
    let rest = rest_is before r text fits in
    let line = short_rest (short_ttl before.default_ttl r.ttl) r text in
    record {
      kept = λ kept. rest.kept kept;
      is = λ entry after record_is. (OwnerBefore, next_word line, after_next_word line, sym rest.blank, refl, refl, (Some r.owner, sym same, record_is));
      only = λ entry after entry_is. owner_before before r.owner line entry after rest.blank same entry_is;
      head_is = rest.head_is;
      ttl = ttl_is before r.ttl;
      class = refl;
      kind = refl;
    }
  where
    owner_before : (before : Context) (owner : List (List ℕ)) (line : List ℕ) (entry : Entry) (after : Context)
        → line_kind (is_indented line) (after_spaces line) ≡ OwnerBefore → before.owner ≡ Some owner → IsEntry before (is_indented line) line entry after → IsZoneRecord before owner line entry after
    owner_before before owner line entry after blank same (kind, first, rest, k, f, l, by) =
        let kinds : kind ≡ OwnerBefore = k ∙ blank in
        let (found, o, owned_by) = subst (λ (x : LineKind). IsEntryBy x before line first rest entry after) kinds by in
        let owners : found ≡ Some owner = o ∙ same in
        subst (λ (x : Option (List (List ℕ))). IsOwned x before line entry after) owners owned_by

-- an owner of its own
named_line : (before : Context) (r : RecordValue) (owner text : List ℕ) → IsPrinted r → IsOwnerWord before.origin r.owner owner
    → IsLine before r (owner ++ short_rest (short_ttl before.default_ttl r.ttl) r text) (short_rest (short_ttl before.default_ttl r.ttl) r text) text (short_head before r)
named_line before r owner text fits is =
    let rest = rest_is before r text fits in
    let left = short_rest (short_ttl before.default_ttl r.ttl) r text in
    let line = owner ++ left in
    let size = is.size left rest.ends in
    let first : word line ≡ owner = take_at owner left _ (sym size) in
    let after : after_word line ≡ left = drop_at owner left _ (sym size) in
    let begins = is.begins left in
    let named : owner_at before.origin (word line) ≡ Some r.owner = ap (owner_at before.origin) first ∙ word_owner before.origin r.owner owner is in
    record {
      kept = λ kept. keeps_both owner left Words Words Words is.kept (rest.kept kept);
      is = λ entry context record_is. by_owner before r.owner line left entry context begins named after record_is;
      only = λ entry context entry_is. owner_only before r.owner line left entry context begins named after entry_is;
      head_is = rest.head_is;
      ttl = ttl_is before r.ttl;
      class = refl;
      kind = refl;
    }

pub short_is : (before : Context) (r : RecordValue) (owner text : List ℕ) → IsReadRecord r → IsPrinted r → IsShortOwner before r.owner owner
    → IsLine before r (owner ++ short_rest (short_ttl before.default_ttl r.ttl) r text) (short_rest (short_ttl before.default_ttl r.ttl) r text) text (short_head before r)
short_is before r owner text is fits (inl (same, none)) =
    let left = short_rest (short_ttl before.default_ttl r.ttl) r text in
    subst (λ (w : List ℕ). IsLine before r (w ++ left) left text (short_head before r)) (sym none) (blank_line before r text fits same)
short_is before r owner text is fits (inr (other, name)) = named_line before r owner text fits (short_word before.origin r.owner owner is.labels is.octets name)

-- ---- directives

-- an entry whose first word is a directive
dollar_kind : (cs : List ℕ) → line_kind false (36 ∷ cs) ≡ Dollar
dollar_kind cs = rw (ne_eqb (suc (length cs)) 0 (omega arith)) refl

pub origin_entry : (before : Context) (labels : List (List ℕ)) → AreLabels labels → AllByRecursion IsOctets labels
    → IsEntry before false (codes "$ORIGIN " ++ full_name_text labels) Nothing (with_origin before (record { is_fqdn = true; labels = labels }))
origin_entry before labels are h =
    let name = full_name_text labels in
    let line = codes "$ORIGIN " ++ name in
    let left : List ℕ = 32 ∷ name in
    let is = full_word before.origin labels are h in
    let begins : begins_owner name ≡ true = ap begins_owner (sym (append-nil name)) ∙ is.begins [] in
    let whole : name ++ [] ≡ name = append-nil name in
    let start : after_spaces left ≡ name = starts name begins in
    let size : word_len name ≡ length name = ap word_len (sym whole) ∙ is.size [] refl in
    let one : word name ≡ name = ap (λ (xs : List ℕ). take (word_len name) xs) (sym whole) ∙ take_at name [] (word_len name) (sym size) in
    let rest : after_word name ≡ [] = ap (λ (xs : List ℕ). drop (word_len name) xs) (sym whole) ∙ drop_at name [] (word_len name) (sym size) in
    let next : next_word left ≡ name = ap word start ∙ one in
    let none : after_next_word left ≡ [] = ap after_word start ∙ rest in
    let first : word line ≡ codes "$ORIGIN" = plain_word (codes "$ORIGIN") left refl refl in
    let after : after_word line ≡ left = plain_after (codes "$ORIGIN") left refl refl in
    let word_is : IsNameWord before.origin name (record { is_fqdn = true; labels = labels }) =
    (no_quote name begins, full_names (Some before.origin.labels) labels are (all_octets labels h)) in
    let only : IsOnlyName before.origin left (record { is_fqdn = true; labels = labels }) =
    (subst (λ (w : List ℕ). IsNameWord before.origin w (record { is_fqdn = true; labels = labels })) (sym next) word_is, ap after_spaces none) in
    let moved = subst (λ (xs : List ℕ). IsOnlyName before.origin xs (record { is_fqdn = true; labels = labels })) (sym after) only in
    let directive : IsDirective (word line) directives.Origin = subst (λ (w : List ℕ). IsDirective w directives.Origin) (sym first) refl in
    (Dollar, word line, after_word line, sym (dollar_kind (codes "ORIGIN " ++ name)), refl, refl, inl (directive, refl, record { is_fqdn = true; labels = labels }, moved, refl))

pub ttl_entry : (before : Context) (ttl : ℕ) → ttl ≤ max_zone_ttl → IsEntry before false (codes "$TTL " ++ decimal ttl) Nothing (with_ttl before ttl)
ttl_entry before ttl few =
    let digits = decimal ttl in
    let line = codes "$TTL " ++ digits in
    let left : List ℕ = 32 ∷ (digits ++ []) in
    let small : ttl < 2 ^ 64 = omega (arith, few) in
    let plain = decimal_plain ttl small in
    let next = plain_next digits [] plain (decimal_nonempty ttl small) refl in
    let same : digits ++ [] ≡ digits = append-nil digits in
    let whole : codes "$TTL" ++ left ≡ line = ap (λ (xs : List ℕ). codes "$TTL " ++ xs) same in
    let first : word line ≡ codes "$TTL" = ap word (sym whole) ∙ plain_word (codes "$TTL") left refl refl in
    let after : after_word line ≡ left = ap after_word (sym whole) ∙ plain_after (codes "$TTL") left refl refl in
    let only : IsOnlyTtl left ttl = ((subst (λ (w : List ℕ). IsTtlWord w ttl) (sym next.0) (period ttl (omega (arith, few))), few), ap after_spaces next.1) in
    let moved = subst (λ (xs : List ℕ). IsOnlyTtl xs ttl) (sym after) only in
    let directive : IsDirective (word line) directives.Ttl = subst (λ (w : List ℕ). IsDirective w directives.Ttl) (sym first) refl in
    (Dollar, word line, after_word line, sym (dollar_kind (codes "TTL " ++ digits)), refl, refl, inr (inl (directive, refl, ttl, moved, refl)))

pub origin_kept : (labels : List (List ℕ)) → AllByRecursion IsOctets labels → Keeps Words (codes "$ORIGIN " ++ full_name_text labels) Words
origin_kept labels h =
    keeps_both (codes "$ORIGIN") (32 ∷ full_name_text labels) Words Words Words (keeps_plain (codes "$ORIGIN") refl) (keeps_spaced (full_name_text labels) (keeps_name labels h))

pub ttl_kept : (ttl : ℕ) → ttl ≤ max_zone_ttl → Keeps Words (codes "$TTL " ++ decimal ttl) Words
ttl_kept ttl few =
    keeps_both (codes "$TTL") (32 ∷ decimal ttl) Words Words Words (keeps_plain (codes "$TTL") refl)
    (keeps_spaced (decimal ttl) (keeps_plain (decimal ttl) (decimal_plain ttl (omega (arith, few)))))
