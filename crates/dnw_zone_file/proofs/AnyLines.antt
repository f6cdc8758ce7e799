-- A line of a record begins a text whose first entry is that record, and is read as no other, whatever is left out of it.
use Rattle.std.proofs.Common.{◌≡◌, ◌<◌, ◌+◌, ◌⊎◌, ℕ, Bool, List, [], ◌∷◌, ◌++◌, length, refl, sym, ap, ◌∙◌, subst, arith, append_assoc, length-append, inl, inr}
use Rattle.std.specs.Prelude.{Option, Some, Result, Ok, Err}
use Rattle.std.specs.Option.{option_or}
use Rattle.std.proofs.lemmas.Option.{same_Some}
use Rattle.dnw_base.specs.DnsClasses.{class_code}
use Rattle.dnw_base.specs.Limits.{max_data}
use Rattle.dnw_base.specs.Names.{NameValue}
use Rattle.dnw_base.specs.RecordTypes.{type_code}
use Rattle.dnw_base.specs.declared.dns_class.DNSClass.{DNSClass}
use Rattle.dnw_base.specs.declared.record_type.RecordType.{RecordType}
use Rattle.dnw_data.specs.Table.{fields_of}
use Rattle.dnw_data.specs.declared.kind.Kind.{Kind}
use Rattle.dnw_name_read.specs.ReadingLaws.{AreBytes}
use Rattle.dnw_record.specs.Records.{RecordAt, RecordValue}
use Rattle.dnw_zone_data.specs.DataTexts.{IsDataText, IsPlainData, IsTextOf, text_kinds}
use Rattle.dnw_zone_data.specs.Generic.{IsGeneric}
use Rattle.dnw_zone_data.specs.NumberForms.{number_forms}
use Rattle.dnw_zone_data.specs.declared.number_form.NumberForm.{NumberForm}
use Rattle.dnw_zone_data.proofs.DataBack.{back, data_fit, same_start}
use Rattle.dnw_zone_data.proofs.OneText.{unambiguous}
use Rattle.dnw_zone_file.specs.declared.context.Context.{Context}
use Rattle.dnw_zone_file.specs.declared.entry.Entry.{Entry}
use Rattle.dnw_zone_file.specs.declared.entry.Entry.TheVariants.{Record as RecordEntry}
use Rattle.dnw_zone_file.specs.declared.entry.ZoneRecord.{ZoneRecord}
use Rattle.dnw_zone_file.specs.declared.error.ZoneError.{ZoneError}
use Rattle.dnw_zone_file.specs.declared.error.ZoneError.TheVariants.{Memory}
use Rattle.dnw_zone_file.specs.declared.head.Head.{Head}
use Rattle.dnw_zone_file.specs.declared.step.Found.{Found}
use Rattle.dnw_zone_file.specs.declared.step.Found.TheVariants.{Entry as IsOne, End, More}
use Rattle.dnw_zone_file.specs.declared.step.Step.{Step}
use Rattle.dnw_zone_file.specs.Contexts.{class_after, minimum_after, record_ttl, ttl_after, unstated_minimum, with_minimum, with_record}
use Rattle.dnw_zone_file.specs.Entries.{IsEntry, IsRecordData, IsZoneRecord}
use Rattle.dnw_zone_file.specs.Heads.{IsZoneHead}
use Rattle.dnw_zone_file.specs.Steps.{IsEntryFound, IsStep, IsStepAt}
use Rattle.dnw_zone_file.specs.WriterLaws.{HasDataOctets, IsWrittenRecord}
use Rattle.dnw_zone_file.specs.Written.{AreOfType, IsSameRecord}
use Rattle.dnw_zone_file.proofs.Kept.{Keeps, is_line}
use Rattle.dnw_zone_file.proofs.KeptFields.{data_kept}
use Rattle.dnw_zone_file.proofs.OneHead.{one_head}
use Rattle.dnw_zone_record.specs.RecordLines.{spaced, IsDataOf}
use Rattle.dnw_zone_values.specs.Octets.{IsOctets}
use Rattle.dnw_zone_record.specs.declared.scan.Ending.{Ending}
use Rattle.dnw_zone_record.specs.declared.scan.Ending.TheVariants.{Line}
use Rattle.dnw_zone_record.specs.declared.scan.Place.TheVariants.{Words}
use Rattle.dnw_zone_record.specs.Lines.{is_indented, line_of}

-- The line is the record's, with this after the owner: the head, and the text of the data.
pub record IsLine (before : Context) (r : RecordValue) (line left text : List ℕ) (head : Head) : Type 0 where
  pub kept : Keeps Words (spaced text) Words → Keeps Words line Words
  pub is : (entry : Entry) (after : Context) → IsZoneRecord before r.owner left entry after → IsEntry before (is_indented line) line entry after
  pub only : (entry : Entry) (after : Context) → IsEntry before (is_indented line) line entry after → IsZoneRecord before r.owner left entry after
  pub head_is : IsZoneHead left head (spaced text)
  pub ttl : ttl_after before head.ttl ≡ Some r.ttl
  pub class : class_after before head.class ≡ r.class
  pub kind : head.record_type ≡ r.record_type

-- ---- the step

-- a line feed is no white space at the beginning of a line
same_indent : (line rest : List ℕ) → is_indented (line ++ 10 ∷ rest) ≡ is_indented line
same_indent [] rest = refl
same_indent (c ∷ cs) rest = refl

-- a step over a line, and what is after it
pub line_step : (before after : Context) (line rest : List ℕ) (more : Bool) (step : Step) → line_of (line ++ 10 ∷ rest) ≡ (line, Line)
    → IsEntryFound before (is_indented line) line (length line + 1) step after → IsStep before (line ++ 10 ∷ rest) more step after
line_step before after line rest more step is found =
    inr (inl (
      (λ none. omega (arith, ap length none, length-append line (10 ∷ rest))),
      line,
      Line,
      is,
      subst (λ (b : Bool). IsEntryFound before b line (length line + 1) step after) (sym (same_indent line rest)) found,
    ))

-- the step that is an entry, over a line and its line feed
abbrev pub entry_step : List ℕ → Entry → Step
entry_step line entry = record { used = length (line ++ 10 ∷ []); found = Ok (IsOne entry) }

-- an entry of a line is the first one of a text that begins with it
pub begins : (before after : Context) (line rest : List ℕ) (more : Bool) (entry : Entry) → Keeps Words line Words → IsEntry before (is_indented line) line entry after
    → IsStep before ((line ++ 10 ∷ []) ++ rest) more (entry_step line entry) after
begins before after line rest more entry kept is =
    let short : Step = record { used = length line + 1; found = Ok (IsOne entry) } in
    let step : IsStep before (line ++ 10 ∷ rest) more short after = line_step before after line rest more short (is_line line rest kept) (inl (entry, is, refl)) in
    let size : length line + 1 ≡ length (line ++ 10 ∷ []) = sym (length-append line (10 ∷ [])) in
    let sized : IsStep before (line ++ 10 ∷ rest) more (entry_step line entry) after =
    subst (λ (n : ℕ). IsStep before (line ++ 10 ∷ rest) more (record { used = n; found = Ok (IsOne entry) }) after) size step in
    subst (λ (t : List ℕ). IsStep before t more (entry_step line entry) after) (sym (append_assoc line (10 ∷ []) rest)) sized

of_found : Entry → Result Found ZoneError → Entry
of_found other (Ok (IsOne entry)) = entry
of_found other (Ok End) = other
of_found other (Ok More) = other
of_found other (Err error) = other

same_found : (a b : Entry) (x y : Result Found ZoneError) → x ≡ Ok (IsOne a) → y ≡ Ok (IsOne b) → x ≡ y → a ≡ b
unfolding of_found
same_found a b x y f g e = ap (of_found a) (sym f ∙ e ∙ g)

found_only : (before after : Context) (indented : Bool) (line : List ℕ) (size used : ℕ) (entry : Entry)
    → IsEntryFound before indented line size (record { used = used; found = Ok (IsOne entry) }) after → IsEntry before indented line entry after × (used ≡ size)
found_only before after indented line size used entry (inl (other, is, e)) =
    let same : entry ≡ other = same_found entry other _ _ refl refl (ap (λ (s : Step). s.found) e) in
    (subst (λ (x : Entry). IsEntry before indented line x after) (sym same) is, ap (λ (s : Step). s.used) e)
found_only before after indented line size used entry (inr (error, fails, e, same)) =
    let no : Ok (IsOne entry) ≡ Err error = ap (λ (s : Step). s.found) e in absurd cc

line_only : (before after : Context) (line rest : List ℕ) (more : Bool) (used : ℕ) (entry : Entry) → line_of (line ++ 10 ∷ rest) ≡ (line, Line)
    → IsStep before (line ++ 10 ∷ rest) more (record { used = used; found = Ok (IsOne entry) }) after → IsEntry before (is_indented line) line entry after × (used ≡ length line + 1)
line_only before after line rest more used entry scanned (inl (none, e, same)) = absurd (omega (arith, ap length none, length-append line (10 ∷ rest)))
line_only before after line rest more used entry scanned (inr (inl (some, other, ending, is, at))) =
    let pair : (other, ending) ≡ (line, Line) = sym is ∙ scanned in
    let same : other ≡ line = ap (λ (x : List ℕ × Ending). x.0) pair in
    let ends : ending ≡ Line = ap (λ (x : List ℕ × Ending). x.1) pair in
    let step : Step = record { used = used; found = Ok (IsOne entry) } in
    let moved : IsStepAt before (line ++ 10 ∷ rest) more line Line step after =
    subst (λ (e : Ending). IsStepAt before (line ++ 10 ∷ rest) more line e step after) ends
    (subst (λ (l : List ℕ). IsStepAt before (line ++ 10 ∷ rest) more l ending step after) same at) in
    let indents = same_indent line rest in
    found_only before after (is_indented line) line (length line + 1) used entry
    (subst (λ (b : Bool). IsEntryFound before b line (length line + 1) step after) indents moved)
line_only before after line rest more used entry scanned (inr (inr (e, same))) =
    let no : Ok (IsOne entry) ≡ Err Memory = ap (λ (s : Step). s.found) e in absurd cc

-- the first entry of a text that begins with a line is the entry of the line
pub begins_only : (before after : Context) (line rest : List ℕ) (more : Bool) (used : ℕ) (entry : Entry) → Keeps Words line Words
    → IsStep before ((line ++ 10 ∷ []) ++ rest) more (record { used = used; found = Ok (IsOne entry) }) after
    → IsEntry before (is_indented line) line entry after × (used ≡ length (line ++ 10 ∷ []))
begins_only before after line rest more used entry kept step =
    let found : Step = record { used = used; found = Ok (IsOne entry) } in
    let moved : IsStep before (line ++ 10 ∷ rest) more found after =
    subst (λ (t : List ℕ). IsStep before t more found after) (append_assoc line (10 ∷ []) rest) step in
    let (is, size) = line_only before after line rest more used entry (is_line line rest kept) moved in
    (is, size ∙ sym (length-append line (10 ∷ [])))

-- ---- the data

-- the text of data is read, if they are of their type
text_is : (origin : NameValue) (r : RecordValue) (text own : List ℕ) → AreOfType r own
    → ((max_data < length own) ⊎ IsGeneric text own ⊎ IsTextOf (Some origin) (number_forms (type_code r.record_type)) (fields_of (class_code r.class) (type_code r.record_type)) text own)
    → IsTextOf (Some origin) (number_forms (type_code r.record_type)) (fields_of (class_code r.class) (type_code r.record_type)) text own
text_is origin r text own fine (inl many) = absurd (omega (arith, many, fine.0))
text_is origin r text own fine (inr (inl shown)) = inl (shown, fine.1)
text_is origin r text own fine (inr (inr is)) = is

after_space : (origin : Option NameValue) (ways : List NumberForm) (fields : List ℕ → List Kind) (text own : List ℕ) → IsTextOf origin ways fields text own
    → IsTextOf origin ways fields (spaced text) own
after_space origin ways fields [] own is = is
after_space origin ways fields (c ∷ cs) own (inl generic) = inl generic
after_space origin ways fields (c ∷ cs) own (inr (other, form, values, are, e)) =
    inr (other, form, values, same_start origin ways (text_kinds fields (c ∷ cs)) (c ∷ cs) (32 ∷ c ∷ cs) values refl are, e)

-- what is known of the data of a record that was read, with the text that is printed of them
pub record HasData (before : Context) (r : RecordValue) (text own : List ℕ) : Type 0 where
  pub kept : Keeps Words (spaced text) Words
  pub fit : IsOctets own
  pub data_is : IsDataOf (Some before.origin) r.class r.record_type (spaced text) own

pub has_data : (before : Context) (b : List ℕ) (p e : ℕ) (r : RecordValue) (text : List ℕ) → AreBytes b → RecordAt b p r e → IsDataText r text
    → (own : List ℕ) × IsPlainData r own × (AreOfType r own → HasData before r text own)
has_data before b p e r text h at print =
    let bytes : AreBytes r.message = subst (λ (x : RecordValue). AreBytes x.message) (sym at.is) h in
    let (own, plain, done) = back (Some before.origin) r text bytes print in
    elim (data_kept r text bytes print) [
      | inl (long, also, many) ↦ (long, also, λ fine. absurd (omega (arith, many, fine.0)))
      | inr kept ↦ (
        own,
        plain,
        λ fine. record {
          kept = kept;
          fit = data_fit r own bytes plain;
          data_is = (after_space (Some before.origin) (number_forms (type_code r.record_type)) (fields_of (class_code r.class) (type_code r.record_type)) text own (text_is before.origin r text own fine done), fine.0);
        },
      )
    ]

-- ---- the record

-- No minimum stands for a time to live that is stated.
stated : (before : Context) (head : Head) (wire : List ℕ) (ttl : ℕ) → ttl_after before head.ttl ≡ Some ttl
    → (record_ttl before head wire ≡ Some ttl) × (with_minimum before (minimum_after before head wire) ≡ before)
stated before head wire ttl is = (
  ap (λ (t : Option ℕ). option_or t (option_or (minimum_after before head wire) before.fallback_ttl)) is,
  ap (λ (t : Option ℕ). with_minimum before (unstated_minimum t head.record_type wire)) is,
)

-- the line with these data is the record
pub line_begins : (before : Context) (r : RecordValue) (line left text own rest : List ℕ) (head : Head) (more : Bool) (found : ZoneRecord) → IsLine before r line left text head
    → HasData before r text own → IsSameRecord r own found
    → IsStep before ((line ++ 10 ∷ []) ++ rest) more (entry_step line (RecordEntry found)) (with_record before r.owner head)
line_begins before r line left text own rest head more found is has same =
    let moved : IsDataOf (Some before.origin) found.class found.record_type (spaced text) found.wire.items = rw (same.0, same.1, same.3) has.data_is in
    let (ttl, context) = stated before head found.wire.items r.ttl is.ttl in
    let data_of : IsRecordData before left head found = (spaced text, is.head_is, ttl ∙ ap Some (sym same.2), same.1 ∙ sym is.class, same.0 ∙ sym is.kind, moved) in
    begins before (with_record before r.owner head) line rest more (RecordEntry found) (is.kept has.kept)
    (is.is (RecordEntry found) (with_record before r.owner head)
    (head, found, data_of, refl, ap (λ (c : Context). with_record c r.owner head) (sym context)))

-- and what is read of it is that record
same_record : (before after : Context) (r : RecordValue) (line left text own : List ℕ) (head : Head) (entry : Entry) → IsLine before r line left text head
    → HasData before r text own → HasDataOctets entry → IsZoneRecord before r.owner left entry after
    → IsWrittenRecord r own entry × (after ≡ with_record before r.owner head)
same_record before after r line left text own head entry is has octets (other, found, (rest, head_is, ttl, class, kind, data_of), e, a) =
    let (heads, lefts) = one_head left other head rest (spaced text) head_is is.head_is in
    let kinds : found.record_type ≡ r.record_type = kind ∙ ap (λ (x : Head). x.record_type) heads ∙ is.kind in
    let classes : found.class ≡ r.class = class ∙ ap (λ (x : Head). class_after before x.class) heads ∙ is.class in
    let (known, context) = stated before other found.wire.items r.ttl (ap (λ (x : Head). ttl_after before x.ttl) heads ∙ is.ttl) in
    let ttls : found.ttl ≡ r.ttl = same_Some found.ttl r.ttl (sym ttl ∙ known) in
    let origin = Some before.origin in
    let items = found.wire.items in
    let moved : IsDataOf origin r.class r.record_type (spaced text) items =
    subst (λ (t : List ℕ). IsDataOf origin r.class r.record_type t items) lefts
    (subst (λ (t : RecordType). IsDataOf origin r.class t rest items) kinds (subst (λ (c : DNSClass). IsDataOf origin c found.record_type rest items) classes data_of)) in
    let fit_too : IsOctets items = subst HasDataOctets e octets in
    let same : items ≡ own =
    unambiguous origin (number_forms (type_code r.record_type)) (fields_of (class_code r.class) (type_code r.record_type)) (spaced text) items own fit_too has.fit moved.0 has.data_is.0 in
    (subst (λ (x : Entry). IsWrittenRecord r own x) (sym e) (kinds, classes, ttls, same), a ∙ ap (λ (c : Context). with_record c r.owner other) context ∙ ap (λ (x : Head). with_record before r.owner x) heads)

pub line_read_back : (before after : Context) (r : RecordValue) (line left text own rest : List ℕ) (head : Head) (more : Bool) (entry : Entry) (used : ℕ)
    → IsLine before r line left text head → HasData before r text own
    → IsStep before ((line ++ 10 ∷ []) ++ rest) more (record { used = used; found = Ok (IsOne entry) }) after → HasDataOctets entry
    → IsWrittenRecord r own entry × (used ≡ length (line ++ 10 ∷ [])) × (after ≡ with_record before r.owner head)
line_read_back before after r line left text own rest head more entry used is has step octets =
    let (entry_is, size) = begins_only before after line rest more used entry (is.kept has.kept) step in
    let (same, context) = same_record before after r line left text own head entry is has octets (is.only entry after entry_is) in
    (same, size, context)
