-- A line that is written of a record is an entry, which is that record.
use Rattle.std.proofs.Common.{◌≡◌, ◌≤◌, ◌<◌, ◌^◌, ◌+◌, ◌-◌, suc, drop, ◌==◌, ◌&&◌, ◌||◌, ℕ, Bool, true, false, List, [], ◌∷◌, ◌++◌, length, codes, decimal, refl, sym, ap, ◌∙◌, subst, arith, append_assoc, append-nil, length-append, inl, inr}
use Rattle.std.specs.Prelude.{nat_le, not, if◌then◌else◌, slice_range, Some, None}
use Rattle.std.specs.List.{AllByRecursion}
use Rattle.std.proofs.lemmas.Bool.{cases_Bool, ne_eqb}
use Rattle.std.proofs.lemmas.Fmt.{decimal_nonempty}
use Rattle.std.proofs.lemmas.List.{take_at}
use Rattle.dnw_base.specs.DnsClasses.{class_code, class_of_code, class_text}
use Rattle.dnw_base.specs.Labels.{IsLabel}
use Rattle.dnw_base.specs.RecordTypes.{type_code, type_of_code, type_text}
use Rattle.dnw_base.specs.declared.dns_class.DNSClass.{DNSClass}
use Rattle.dnw_base.specs.declared.dns_class.DNSClass.TheVariants.{OPT, Unknown}
use Rattle.dnw_base.proofs.PrintedClasses.{classes_come_back}
use Rattle.dnw_base.proofs.PrintedTypes.{types_come_back}
use Rattle.dnw_data.proofs.Codes.{class_back, code_back}
use Rattle.dnw_name_read.specs.ReadingLaws.{AreBytes}
use Rattle.dnw_name_text.specs.NameTexts.{is_special, name_octet, label_octets, labels_text, full_name_text}
use Rattle.dnw_base.specs.Names.{NameValue}
use Rattle.dnw_record.specs.Records.{RecordAt, RecordValue, fixed_at, number_at, record_of}
use Rattle.dnw_zone_data.specs.NameReading.{named_at}
use Rattle.dnw_zone_data.specs.Words.{after_spaces, is_end, is_space, word, after_word}
use Rattle.dnw_zone_data.proofs.FieldsBack.{type_other, type_plain, type_some}
use Rattle.dnw_zone_data.proofs.NamesBack.{name_len}
use Rattle.dnw_zone_values.proofs.ParamTextsBack.{drop_fit, take_fit}
use Rattle.dnw_zone_data.proofs.NumberFormsBack.{period}
use Rattle.dnw_zone_data.proofs.Plain.{all_plain, decimal_plain, plain_after, plain_append, plain_starts, plain_utf8, plain_word}
use Rattle.dnw_zone_file.specs.declared.entry.LineKind.TheVariants.{OwnerFirst}
use Rattle.dnw_zone_file.specs.Entries.{begins_with, line_kind, owner_at}
use Rattle.dnw_zone_file.specs.Heads.{IsZoneHead}
use Rattle.dnw_zone_record.proofs.LinesBack.{class_other, IsReadRecord, line_rest, record_read, split}
use Rattle.dnw_zone_data.specs.TypeLists.{IsTypeWord}
use Rattle.dnw_zone_record.specs.RecordLines.{record_line, spaced, next_word, after_next_word, IsTtlWord, IsClassWord}
use Rattle.dnw_zone_values.specs.Octets.{IsOctets}
use Rattle.dnw_zone_record.specs.Lines.{is_indented}
use Rattle.dnw_zone_record.specs.declared.scan.Place.TheVariants.{Words}
use Rattle.dnw_zone_file.specs.Written.{IsOfZone, written_head}
use Rattle.dnw_zone_file.proofs.Kept.{Keeps, keeps_both, keeps_name, keeps_plain, keeps_spaced}

-- ---- words

abbrev pub IsNext : List ℕ → List ℕ → Type 0
IsNext w rest = (next_word (32 ∷ w ++ rest) ≡ w) × (after_next_word (32 ∷ w ++ rest) ≡ rest)

pub plain_next : (w rest : List ℕ) → all_plain w ≡ true → 0 < length w → is_end rest ≡ true → IsNext w rest
plain_next w rest plain some end =
    let start = plain_starts w rest plain some in
    (ap word start ∙ plain_word w rest plain end, ap after_word start ∙ plain_after w rest plain end)

pub class_plain : (class : DNSClass) → class_code class < 65536 → (all_plain (class_text class) ≡ true) × (0 < length (class_text class))
class_plain (OPT size) h =
    let code = class_code (OPT size) in
    (plain_append (codes "CLASS") (decimal code) refl (decimal_plain code (omega (arith, h))), omega (arith, length-append (codes "CLASS") (decimal code)))
class_plain (Unknown code) h =
    (plain_append (codes "CLASS") (decimal code) refl (decimal_plain code (omega (arith, h))), omega (arith, length-append (codes "CLASS") (decimal code)))
class_plain class h = (refl, omega arith)

pub spaced_end : (text : List ℕ) → is_end (spaced text) ≡ true
spaced_end [] = refl
spaced_end (c ∷ cs) = refl

slice_fit : (xs : List ℕ) (i j : ℕ) → IsOctets xs → IsOctets (slice_range xs i j)
slice_fit xs i j h = take_fit (j - i) (drop i xs) (drop_fit i xs h)

-- what is printed of a record that was read: its type, its class and its time to live are numbers of a message
pub record IsPrinted (r : RecordValue) : Type 0 where
  pub type_few : type_code r.record_type < 65536
  pub class_few : class_code r.class < 65536
  pub ttl_few : r.ttl ≤ 4294967295
  pub same_type : type_of_code (type_code r.record_type) ≡ r.record_type
  pub same_class : class_of_code (class_code r.class) ≡ r.class
  pub zone : IsOfZone r

printed_of : (b : List ℕ) (labels : List (List ℕ)) (end : ℕ) → AreBytes b → IsOfZone (record_of b labels end) → IsPrinted (record_of b labels end)
printed_of b labels end h zone =
    let f = fixed_at b end in
    let fit = slice_fit b end (end + 10) h in
    let t = slice_fit f 0 2 fit in
    let c = slice_fit f 2 4 fit in
    let n = slice_fit f 4 8 fit in
    record {
      type_few = omega (arith, code_back (number_at f 0), t 0, t 1);
      class_few = omega (arith, class_back (number_at f 2), c 0, c 1);
      ttl_few = omega (arith, n 0, n 1, n 2, n 3);
      same_type = ap type_of_code (code_back (number_at f 0));
      same_class = ap class_of_code (class_back (number_at f 2));
      zone = zone;
    }

pub printed : (b : List ℕ) (p e : ℕ) (r : RecordValue) → AreBytes b → RecordAt b p r e → IsOfZone r → IsPrinted r
printed b p e r h at zone = subst IsPrinted (sym at.is) (printed_of b at.labels at.owner_end h (subst (λ (x : RecordValue). IsOfZone x) at.is zone))

pub read : (b : List ℕ) (p e : ℕ) (r : RecordValue) → AreBytes b → RecordAt b p r e → IsReadRecord r
read b p e r h at = subst IsReadRecord (sym at.is) (record_read b at.labels p at.owner_end at.pointers h at.owner_read)

-- ---- the head

-- the time to live, the class and the type are there, each as it is
pub zone_head : (r : RecordValue) (text : List ℕ) → IsPrinted r → IsZoneHead (line_rest r text) (written_head r) (spaced text)
zone_head r text fits =
    let rest4 = spaced text in
    let rest3 : List ℕ = 32 ∷ (type_text r.record_type ++ rest4) in
    let rest2 : List ℕ = 32 ∷ (class_text r.class ++ rest3) in
    let few : r.ttl < 2 ^ 64 = omega (arith, fits.ttl_few) in
    let ttl = plain_next (decimal r.ttl) rest2 (decimal_plain r.ttl few) (decimal_nonempty r.ttl few) refl in
    let shape = class_plain r.class fits.class_few in
    let name = plain_next (class_text r.class) rest3 shape.0 shape.1 refl in
    let plain = type_plain r.record_type fits.type_few in
    let last = plain_next (type_text r.record_type) rest4 plain (type_some r.record_type) (spaced_end text) in
    let is_ttl : IsTtlWord (next_word (32 ∷ decimal r.ttl ++ rest2)) r.ttl =
    subst (λ (w : List ℕ). IsTtlWord w r.ttl) (sym ttl.0) (period r.ttl fits.ttl_few) in
    let is_class : IsClassWord (next_word rest2) r.class =
    subst (λ (w : List ℕ). IsClassWord w r.class) (sym name.0)
    (plain_utf8 (class_text r.class) shape.0, classes_come_back r.class fits.class_few ∙ ap Some fits.same_class, class_other r.class) in
    let is_type : IsTypeWord (next_word rest3) r.record_type =
    subst (λ (w : List ℕ). IsTypeWord w r.record_type) (sym last.0)
    (plain_utf8 (type_text r.record_type) plain, types_come_back r.record_type fits.type_few ∙ ap Some fits.same_type, type_other r.record_type) in
    let (class, kind, few_seconds) = fits.zone in
    (rest3, (Some r.ttl, rest2, rest3, ((is_ttl, few_seconds), sym ttl.1), ((is_class, class), sym name.1), (refl, refl)), (is_type, kind), sym last.1)

-- ---- the owner

-- the first octet of an owner is no white space, no quote and no `$`
abbrev pub begins_owner : List ℕ → Bool
begins_owner [] = false
begins_owner (c ∷ cs) = nat_le 35 c && not (c == 36) || (c == 33)

pub octet_begins : (o : ℕ) (xs : List ℕ) → begins_owner (name_octet o ++ xs) ≡ true
octet_begins o xs = elim (cases_Bool (is_special o)) [
  | inl special ↦ rw special refl
  | inr other ↦ elim (cases_Bool (nat_le 33 o && nat_le o 126)) [
    | inl printable ↦ rw (other, printable) (grind arith)
    | inr not ↦ rw (other, not) refl
  ]
]

pub owner_begins : (labels : List (List ℕ)) (rest : List ℕ) → AllByRecursion IsLabel labels → begins_owner (full_name_text labels ++ rest) ≡ true
owner_begins [] rest are = refl
owner_begins ([] ∷ labels) rest are = absurd (omega (arith, are.0.not_empty))
owner_begins ((o ∷ label) ∷ labels) rest are =
    let seam : full_name_text ((o ∷ label) ∷ labels) ++ rest ≡ name_octet o ++ (label_octets label ++ (46 ∷ (labels_text labels ++ rest))) = simp append_assoc in
    ap begins_owner seam ∙ octet_begins o _

pub starts : (line : List ℕ) → begins_owner line ≡ true → after_spaces line ≡ line
starts [] h = refl
starts (c ∷ cs) h = let space : is_space c ≡ false = grind arith in rw space refl

pub kind_of : (line : List ℕ) → begins_owner line ≡ true → line_kind (is_indented line) (after_spaces line) ≡ OwnerFirst
kind_of [] h = absurd cc
kind_of (c ∷ cs) h =
    let space : is_space c ≡ false = grind arith in
    let blank : (c == 32) ≡ false = grind arith in
    let tab : (c == 9) ≡ false = grind arith in
    let dollar : (c == 36) ≡ false = grind arith in
    let some : (suc (length cs) == 0) ≡ false = ne_eqb (suc (length cs)) 0 (omega arith) in
    rw (space, some, blank, tab, dollar) refl

pub no_quote : (text : List ℕ) → begins_owner text ≡ true → begins_with 34 text ≡ false
no_quote [] h = refl
no_quote (c ∷ cs) h = grind arith

-- ---- the entry

pub whole_line : (r : RecordValue) (text : List ℕ) → record_line r text ≡ full_name_text r.owner ++ line_rest r text
whole_line r text = simp append_assoc

-- the line of a record is that of an entry with its owner first
pub owner_first : (r : RecordValue) (text : List ℕ) → IsReadRecord r → begins_owner (record_line r text) ≡ true
owner_first r text is = ap begins_owner (whole_line r text) ∙ owner_begins r.owner (line_rest r text) is.labels.each

pub owner_is : (origin : NameValue) (r : RecordValue) (text : List ℕ) → IsReadRecord r → owner_at origin (word (record_line r text)) ≡ Some r.owner
owner_is origin r text is =
    let parts = split (Some origin) r text is in
    let len = name_len r.owner (line_rest r text) is.labels.each is.octets refl in
    let first : word (record_line r text) ≡ full_name_text r.owner =
    ap word (whole_line r text) ∙ take_at (full_name_text r.owner) (line_rest r text) _ (sym len) in
    let begins : begins_with 34 (full_name_text r.owner) ≡ false =
    no_quote (full_name_text r.owner) (ap begins_owner (sym (append-nil (full_name_text r.owner))) ∙ owner_begins r.owner [] is.labels.each) in
    let unquoted : begins_with 34 (word (record_line r text)) ≡ false = ap (begins_with 34) first ∙ begins in
    ap (λ (b : Bool). if b then None else named_at (Some origin) (word (record_line r text))) unquoted ∙ parts.named

-- the line stays as it is
pub line_kept : (r : RecordValue) (text : List ℕ) → IsReadRecord r → IsPrinted r → Keeps Words (spaced text) Words → Keeps Words (record_line r text) Words
line_kept r text is fits kept =
    let few : r.ttl < 2 ^ 64 = omega (arith, fits.ttl_few) in
    let last = keeps_both (32 ∷ type_text r.record_type) (spaced text) Words Words Words
    (keeps_spaced (type_text r.record_type) (keeps_plain (type_text r.record_type) (type_plain r.record_type fits.type_few))) kept in
    let third = keeps_both (32 ∷ class_text r.class) (32 ∷ (type_text r.record_type ++ spaced text)) Words Words Words
    (keeps_spaced (class_text r.class) (keeps_plain (class_text r.class) (class_plain r.class fits.class_few).0)) last in
    let second = keeps_both (32 ∷ decimal r.ttl) (32 ∷ (class_text r.class ++ (32 ∷ (type_text r.record_type ++ spaced text)))) Words Words Words
    (keeps_spaced (decimal r.ttl) (keeps_plain (decimal r.ttl) (decimal_plain r.ttl few))) third in
    subst (λ (t : List ℕ). Keeps Words t Words) (sym (whole_line r text))
    (keeps_both (full_name_text r.owner) (line_rest r text) Words Words Words (keeps_name r.owner is.octets) second)
