-- Records that are printed as lines are parsed as the same records.
use Rattle.std.proofs.Common.{◌≡◌, ◌≤◌, ◌<◌, ◌^◌, ◌+◌, ◌-◌, ℕ, true, false, List, [], ◌∷◌, ◌++◌, length, drop, codes, decimal, refl, sym, ap, ◌∙◌, subst, arith, append_assoc, length-append, inl, inr}
use Rattle.std.specs.Prelude.{Option, Some, slice_range}
use Rattle.std.specs.List.{AllByRecursion}
use Rattle.std.proofs.lemmas.Bool.{cases_lt}
use Rattle.std.proofs.lemmas.Fmt.{decimal_nonempty}
use Rattle.std.proofs.lemmas.List.{take_at, drop_at}
use Rattle.dnw_base.specs.Names.{NameValue, AreLabels}
use Rattle.dnw_base.specs.declared.dns_class.DNSClass.{DNSClass}
use Rattle.dnw_base.specs.declared.dns_class.DNSClass.TheVariants.{OPT, Unknown}
use Rattle.dnw_base.specs.DnsClasses.{class_code, class_of_code, class_text}
use Rattle.dnw_base.specs.RecordTypes.{type_code, type_of_code, type_text}
use Rattle.dnw_base.proofs.PrintedClasses.{classes_come_back}
use Rattle.dnw_base.proofs.PrintedTypes.{types_come_back}
use Rattle.dnw_name_read.specs.Reading.{NameAt}
use Rattle.dnw_name_read.specs.ReadingLaws.{AreBytes}
use Rattle.dnw_name_read.proofs.Counts.{NameAt_labels}
use Rattle.dnw_data.specs.declared.kind.Kind.{Kind}
use Rattle.dnw_data.specs.Table.{fields_of}
use Rattle.dnw_record.specs.Records.{RecordValue, record_of, fixed_at, number_at}
use Rattle.dnw_zone_values.specs.Octets.{IsOctets}
use Rattle.dnw_zone_values.proofs.ParamTextsBack.{drop_fit, take_fit}
use Rattle.dnw_name_text.specs.NameTexts.{full_name_text}
use Rattle.dnw_zone_data.specs.declared.number_form.NumberForm.{NumberForm}
use Rattle.dnw_zone_data.specs.NumberForms.{number_forms}
use Rattle.dnw_zone_data.specs.Words.{is_asterisk, is_end, word, after_word}
use Rattle.dnw_base.specs.Limits.{max_data}
use Rattle.dnw_zone_data.specs.DataTexts.{IsTextOf, text_kinds}
use Rattle.dnw_zone_data.specs.NameReading.{named_at}
use Rattle.dnw_zone_record.specs.declared.record_line.LineHead.{LineHead}
use Rattle.dnw_zone_data.specs.TypeLists.{IsTypeWord}
use Rattle.dnw_zone_record.specs.RecordLines.{record_line, spaced, next_word, after_next_word, line_octets, IsRecordLine, IsTtlWord, IsClassWord, IsHead, IsDataOf, IsAfterOwner, HasClassNext}
use Rattle.dnw_zone_record.specs.RecordTextLaws.{line_head, LinesComeBack}
use Rattle.dnw_zone_data.proofs.DataBack.{back, same_start}
use Rattle.dnw_zone_data.proofs.FieldValues.{labels_fit}
use Rattle.dnw_zone_data.proofs.FieldsBack.{type_other, type_plain, type_some}
use Rattle.dnw_zone_data.proofs.NamesBack.{name_is, name_len}
use Rattle.dnw_zone_data.proofs.NumberFormsBack.{period}
use Rattle.dnw_zone_data.proofs.Plain.{all_plain, decimal_plain, plain_after, plain_append, plain_starts, plain_utf8, plain_word}
use Rattle.dnw_data.proofs.Codes.{class_back, code_back}

-- ---- words

-- the next word, and what is after it
abbrev IsNext : List ℕ → List ℕ → Type 0
IsNext w rest = (next_word (32 ∷ w ++ rest) ≡ w) × (after_next_word (32 ∷ w ++ rest) ≡ rest)

plain_next : (w rest : List ℕ) → all_plain w ≡ true → 0 < length w → is_end rest ≡ true → IsNext w rest
plain_next w rest plain some end =
    let start = plain_starts w rest plain some in
    (ap word start ∙ plain_word w rest plain end, ap after_word start ∙ plain_after w rest plain end)

ttl_word : (n : ℕ) → n ≤ 4294967295 → IsTtlWord (decimal n) n
ttl_word n few =
    period n few

class_plain : (class : DNSClass) → class_code class < 65536 → (all_plain (class_text class) ≡ true) × (0 < length (class_text class))
class_plain (OPT size) h =
    let code = class_code (OPT size) in
    (plain_append (codes "CLASS") (decimal code) refl (decimal_plain code (omega (arith, h))), omega (arith, length-append (codes "CLASS") (decimal code)))
class_plain (Unknown code) h =
    (plain_append (codes "CLASS") (decimal code) refl (decimal_plain code (omega (arith, h))), omega (arith, length-append (codes "CLASS") (decimal code)))
class_plain class h = (refl, omega arith)

-- no class is printed as `*`
pub class_other : (class : DNSClass) → is_asterisk (class_text class) ≡ false
class_other (OPT size) = refl
class_other (Unknown code) = refl
class_other class = refl

-- ---- lines

-- the kinds of the fields of the data, by their octets
abbrev pub head_fields : LineHead → List ℕ → List Kind
head_fields head = fields_of (class_code head.class) (type_code head.record_type)

-- the forms of their numbers
abbrev pub head_forms : LineHead → List NumberForm
head_forms head = number_forms (type_code head.record_type)

-- a space before data is left out
after_space : (origin : Option NameValue) (ways : List NumberForm) (fields : List ℕ → List Kind) (text own : List ℕ) → IsTextOf origin ways fields text own
    → IsTextOf origin ways fields (spaced text) own
after_space origin ways fields [] own is = is
after_space origin ways fields (c ∷ cs) own (inl generic) = inl generic
after_space origin ways fields (c ∷ cs) own (inr (other, form, values, are, e)) =
    inr (other, form, values, same_start origin ways (text_kinds fields (c ∷ cs)) (c ∷ cs) (32 ∷ c ∷ cs) values refl are, e)

pub without_space : (origin : Option NameValue) (ways : List NumberForm) (fields : List ℕ → List Kind) (text own : List ℕ) → IsTextOf origin ways fields (spaced text) own
    → IsTextOf origin ways fields text own
without_space origin ways fields [] own is = is
without_space origin ways fields (c ∷ cs) own (inl generic) = inl generic
without_space origin ways fields (c ∷ cs) own (inr (other, form, values, are, e)) =
    inr (other, form, values, same_start origin ways (text_kinds fields (c ∷ cs)) (32 ∷ c ∷ cs) (c ∷ cs) values refl are, e)

spaced_end : (text : List ℕ) → is_end (spaced text) ≡ true
spaced_end [] = refl
spaced_end (c ∷ cs) = refl

slice_fit : (xs : List ℕ) (i j : ℕ) → IsOctets xs → IsOctets (slice_range xs i j)
slice_fit xs i j h = take_fit (j - i) (drop i xs) (drop_fit i xs h)

-- a record as it is read: its type and its class by their codes
pub record IsReadRecord (r : RecordValue) : Type 0 where
  pub labels : AreLabels r.owner
  pub octets : AllByRecursion IsOctets r.owner
  type_number : ℕ
  class_number : ℕ
  type_few : type_number < 65536
  class_few : class_number < 65536
  ttl_few : r.ttl ≤ 4294967295
  type_is : r.record_type ≡ type_of_code type_number
  class_is : r.class ≡ class_of_code class_number

-- what is after the owner
abbrev pub line_rest : RecordValue → List ℕ → List ℕ
line_rest r text = 32 ∷ (decimal r.ttl ++ (32 ∷ (class_text r.class ++ (32 ∷ (type_text r.record_type ++ spaced text)))))

pub head_back : (r : RecordValue) (text : List ℕ) → IsReadRecord r → IsHead (line_rest r text) (line_head r) (spaced text)
head_back r text is =
    let code : type_code r.record_type ≡ is.type_number = ap (λ k. type_code k) is.type_is ∙ code_back is.type_number in
    let number : class_code r.class ≡ is.class_number = ap (λ k. class_code k) is.class_is ∙ class_back is.class_number in
    let small : type_code r.record_type < 65536 = omega (arith, is.type_few, code) in
    let low : class_code r.class < 65536 = omega (arith, is.class_few, number) in
    let rest4 = spaced text in
    let rest3 : List ℕ = 32 ∷ (type_text r.record_type ++ rest4) in
    let rest2 : List ℕ = 32 ∷ (class_text r.class ++ rest3) in
    let few : r.ttl < 2 ^ 64 = omega (arith, is.ttl_few) in
    let ttl = plain_next (decimal r.ttl) rest2 (decimal_plain r.ttl few) (decimal_nonempty r.ttl few) refl in
    let shape = class_plain r.class low in
    let name = plain_next (class_text r.class) rest3 shape.0 shape.1 refl in
    let plain = type_plain r.record_type small in
    let last = plain_next (type_text r.record_type) rest4 plain (type_some r.record_type) (spaced_end text) in
    let is_ttl : IsTtlWord (next_word (32 ∷ decimal r.ttl ++ rest2)) r.ttl = subst (λ (w : List ℕ). IsTtlWord w r.ttl) (sym ttl.0) (ttl_word r.ttl is.ttl_few) in
    let is_class : IsClassWord (next_word rest2) r.class =
    subst (λ (w : List ℕ). IsClassWord w r.class) (sym name.0)
    (plain_utf8 (class_text r.class) shape.0, classes_come_back r.class low ∙ ap (λ (n : ℕ). Some (class_of_code n)) number ∙ ap Some (sym is.class_is), class_other r.class) in
    let is_type : IsTypeWord (next_word rest3) r.record_type =
    subst (λ (w : List ℕ). IsTypeWord w r.record_type) (sym last.0)
    (plain_utf8 (type_text r.record_type) plain, types_come_back r.record_type small ∙ ap (λ (n : ℕ). Some (type_of_code n)) code ∙ ap Some (sym is.type_is), type_other r.record_type) in
    let has_class : HasClassNext (after_next_word (32 ∷ decimal r.ttl ++ rest2)) r.class rest3 =
    subst (λ (left : List ℕ). HasClassNext left r.class rest3) (sym ttl.1) (inl (is_class, sym name.1)) in
    (rest3, inl (is_ttl, has_class), is_type, sym last.1)

-- the owner, and what is after it
pub record Split (origin : Option NameValue) (r : RecordValue) (text : List ℕ) : Type 0 where
  pub named : named_at origin (word (record_line r text)) ≡ Some r.owner
  pub left : after_word (record_line r text) ≡ line_rest r text

pub split : (origin : Option NameValue) (r : RecordValue) (text : List ℕ) → IsReadRecord r → Split origin r text
split origin r text is =
    let w = full_name_text r.owner in
    let rest = line_rest r text in
    let len = name_len r.owner rest is.labels.each is.octets refl in
    let first : word (w ++ rest) ≡ w = take_at w rest _ (sym len) in
    let left : after_word (w ++ rest) ≡ rest = drop_at w rest _ (sym len) in
    let whole : record_line r text ≡ w ++ rest = simp append_assoc in
    record {
      named = ap (λ (xs : List ℕ). named_at origin (word xs)) whole ∙ ap (named_at origin) first ∙ name_is origin r.owner is.labels is.octets;
      left = ap after_word whole ∙ left;
    }

line_back : (origin : Option NameValue) (r : RecordValue) (text own : List ℕ) → IsReadRecord r → IsDataOf origin r.class r.record_type (spaced text) own
    → IsRecordLine origin (record_line r text) (line_octets r.owner (line_head r) own)
unfolding IsRecordLine
line_back origin r text own is data_is =
    let parts = split origin r text is in
    let octets = line_octets r.owner (line_head r) own in
    let after : IsAfterOwner origin r.owner (line_rest r text) octets = (line_head r, spaced text, own, head_back r text is, data_is, refl) in
    (r.owner, parts.named, subst (λ (xs : List ℕ). IsAfterOwner origin r.owner xs octets) (sym parts.left) after)

pub record_read : (b : List ℕ) (labels : List (List ℕ)) (p end k : ℕ) → AreBytes b → NameAt b p labels end k → IsReadRecord (record_of b labels end)
record_read b labels p end k h name =
    let f = fixed_at b end in
    let fit = slice_fit b end (end + 10) h in
    let t = slice_fit f 0 2 fit in
    let c = slice_fit f 2 4 fit in
    let n = slice_fit f 4 8 fit in
    record {
      labels = NameAt_labels name;
      octets = labels_fit h name.reads;
      type_number = number_at f 0;
      class_number = number_at f 2;
      type_few = omega (arith, t 0, t 1);
      class_few = omega (arith, c 0, c 1);
      ttl_few = omega (arith, n 0, n 1, n 2, n 3);
      type_is = refl;
      class_is = refl;
    }

pub lines : LinesComeBack
lines origin b p e r text h at print =
    let bytes : AreBytes r.message = subst (λ (x : RecordValue). AreBytes x.message) (sym at.is) h in
    let read : IsReadRecord r = subst (λ (x : RecordValue). IsReadRecord x) (sym at.is) (record_read b at.labels p at.owner_end at.pointers h at.owner_read) in
    let (own, plain, done) = back origin r text bytes print in (
      own,
      plain,
      elim (cases_lt max_data (length own)) [
        | inl many ↦ inl many
        | inr few ↦ elim done [
          | inl many ↦ inl many
          | inr (inl shown) ↦ inr (inl shown)
          | inr (inr is) ↦ inr (inr (line_back origin r text own read (after_space origin (head_forms (line_head r)) (head_fields (line_head r)) text own is, few)))
        ]
      ],
    )
