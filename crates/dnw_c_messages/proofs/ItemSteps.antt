-- The steps that list the items of a message.
use Rattle.std.proofs.Common.{◌≡◌, ◌≢◌, ◌≤◌, ◌<◌, ◌⊎◌, ℕ, zero, suc, ◌+◌, ◌-◌, List, [], ◌∷◌, ◌++◌, drop, length, slice_range, inl, inr, refl, sym, ap, ◌∙◌, subst, arith, ⊎_elim}
use Rattle.std.proofs.lemmas.Bool.Decides.{leb_tells}
use Rattle.dnw_base.specs.declared.error.DecodeError.{DecodeError}
use Rattle.dnw_base.specs.declared.error.DecodeError.TheVariants.{InsufficientBytes}
use Rattle.dnw_base.specs.Decoder.{Decoder, HasLeft, advanced}
use Rattle.dnw_base.specs.DnsClasses.{class_code, class_of_code}
use Rattle.dnw_base.specs.RecordTypes.{type_code, type_of_code}
use Rattle.dnw_name_read.specs.Reading.{StopsAt, TakesName}
use Rattle.dnw_data.specs.declared.kind.Kind.{Kind}
use Rattle.dnw_data.specs.Table.{fields_of}
use Rattle.dnw_record.specs.DataCopies.{data_start, record_kinds}
use Rattle.dnw_message_read.specs.Messages.{FailsItem, Item, ItemAt, Rest, question_rest, record_in, record_rest, rest_of}
use Rattle.dnw_message_read.specs.declared.error.MessageErrorKind.TheVariants.{Decode, TooManyPointers}
use Rattle.dnw_message_read.specs.declared.error.Section.{Section}
use Rattle.dnw_message_read.specs.declared.error.Section.TheVariants.{Queries}
use Rattle.dnw_c_base.specs.Failures.{of_decode}
use Rattle.dnw_c_base.specs.declared.failure.Failure.{Failure}
use Rattle.dnw_c_base.specs.declared.failure.Failure.TheVariants as why
use Rattle.dnw_c_messages.specs.Listings.{Exceeds, Task, fields, items, no_items, question, question_row, record_row, resource, with_name}
use Rattle.dnw_c_messages.specs.MessageCalls.{section_number}
use Rattle.dnw_c_messages.specs.Inside.Sheets.{FillsTo, Fits, Goes, GoesByOne, HaltsAtOne, HaltsOn, Sheet, listing}
use Rattle.dnw_c_messages.specs.declared.rows.TableRow.{TableRow}
use Rattle.dnw_c_messages.proofs.Steps.{goes_before, goes_both, goes_halts, goes_quietly, goes_step, halts_before, halts_step, halts_task}

-- ---- items that are not there

pub name_stops : (section : Section) (d : Decoder) (s : Sheet) (error : DecodeError) (k j : ℕ) → StopsAt d error k j
    → HaltsAtOne section d.bytes d.index s (of_decode error)
name_stops section d s error k j stops n some = halts_task (items section n) (some, Decode error, inl (k, j, stops), refl)

lacks : (rest : Rest) (d at : Decoder) (labels : List (List ℕ)) (k : ℕ) (error : DecodeError) → TakesName d at labels k
    → ¬ (HasLeft at (rest at.bytes at.index)) → error ≡ InsufficientBytes → FailsItem rest d.bytes d.index error
lacks rest d at labels k error h missing is =
    let none = rw h.moved at missing in
    let short : length d.bytes < h.end + rest d.bytes h.end =
    ⊎_elim (λ within. absurd (none within.1)) (λ past. past.1) (leb_tells (h.end + rest d.bytes h.end) (length d.bytes)) in
    inr (labels, h.end, k, h.name, short, is)

pub rest_lacks : (section : Section) (d at : Decoder) (labels : List (List ℕ)) (k : ℕ) (s : Sheet) (error : DecodeError) → TakesName d at labels k
    → ¬ (HasLeft at (rest_of section at.bytes at.index)) → error ≡ InsufficientBytes → HaltsAtOne section d.bytes d.index s (of_decode error)
rest_lacks section d at labels k s error h missing is n some =
    halts_task (items section n) (some, Decode error, lacks (rest_of section) d at labels k error h missing is, refl)

-- ---- items that are there

module _ (rest : Rest) (d at after : Decoder) (labels : List (List ℕ)) (k : ℕ) (h : TakesName d at labels k)
    (room : HasLeft at (rest at.bytes at.index)) (moved : after ≡ advanced at (rest at.bytes at.index)) where
  abbrev the_item : Item
  the_item = record { labels = labels; name_end = h.end }

  there : ItemAt rest d.bytes d.index the_item after.index k
  there =
      let inside = rw h.moved at room in
      let after_is = rw h.moved at moved in
      let ends : after.index ≡ h.end + rest d.bytes h.end = ap (λ (x : Decoder). x.index) after_is in
      record { name = h.name; ends = ends; inside = omega (arith, inside, ends) }

  pub same_bytes : after.bytes ≡ d.bytes
  same_bytes = ap (λ (x : Decoder). x.bytes) moved ∙ ap (λ (x : Decoder). x.bytes) h.moved

-- how a name is not listed
abbrev NotListed : Sheet → List (List ℕ) → ℕ → TableRow → Failure → Type 0
NotListed s labels k row failure =
    ((failure ≡ why.TooManyPointers) × (s.at.left < k))
    ⊎ ((failure ≡ why.NoRoom) × (k ≤ s.at.left) × Exceeds (length s.rows) (length s.names) (with_name (listing s) labels k row))

module _ (d at after : Decoder) (labels : List (List ℕ)) (k : ℕ) (row : TableRow) (s : Sheet) (h : TakesName d at labels k) (room : HasLeft at 4)
    (moved : after ≡ advanced at 4) (row_is : row ≡ question_row at.bytes at.index) where
  question_item : ItemAt question_rest d.bytes d.index (the_item question_rest d at after labels k h room moved) after.index k
  question_item = there question_rest d at after labels k h room moved

  its_row : row ≡ question_row d.bytes h.end
  its_row = row_is ∙ ap (λ (x : Decoder). question_row x.bytes x.index) h.moved

  pub question_goes : (t : Sheet) → (k ≤ s.at.left) × FillsTo s t (with_name (listing s) labels k row)
      → GoesByOne Queries d.bytes d.index s after.index t
  question_goes t (few, puts) n some =
      goes_step (question some question_item few) (subst (λ r. FillsTo s t (with_name (listing s) labels k r)) its_row puts)

  pub question_halts : (failure : Failure) → NotListed s labels k row failure → HaltsAtOne Queries d.bytes d.index s failure
  question_halts failure (inl (is, more)) n some =
      halts_task (items Queries n)
      (some, TooManyPointers, (the_item question_rest d at after labels k h room moved, after.index, k, question_item, more), is)
  question_halts failure (inr (is, few, much)) n some =
      halts_step (question some question_item few)
      (subst (λ r. Exceeds (length s.rows) (length s.names) (with_name (listing s) labels k r)) its_row much) is

-- ---- records

pub none_left : (section : Section) (n : ℕ) (b : List ℕ) (p : ℕ) (s : Sheet) → n ≤ 0 → Fits s → Goes b (items section n ∷ []) p s [] p s
none_left section zero b p s none fits = goes_quietly fits no_items
none_left section (suc n) b p s none fits = absurd (omega (arith, none))

pub other_rest : (section : Section) → section ≢ Queries → rest_of section ≡ record_rest
other_rest Queries other = absurd (other refl)
other_rest section other = refl

module _ (section : Section) (d at after : Decoder) (labels : List (List ℕ)) (k : ℕ) (row : TableRow) (s : Sheet) (other : section ≢ Queries)
    (h : TakesName d at labels k) (room : HasLeft at (record_rest at.bytes at.index)) (moved : after ≡ advanced at (record_rest at.bytes at.index))
    (row_is : row ≡ record_row (section_number section) at.bytes at.index) where
  abbrev the_record : Item
  the_record = the_item record_rest d at after labels k h room moved

  record_item : ItemAt record_rest d.bytes d.index the_record after.index k
  record_item = there record_rest d at after labels k h room moved

  record_is : row ≡ record_row (section_number section) d.bytes h.end
  record_is = row_is ∙ ap (λ (x : Decoder). record_row (section_number section) x.bytes x.index) h.moved

  pub row_within : row.offset + row.len ≤ length after.bytes
  row_within =
      let bytes = same_bytes record_rest d at after labels k h room moved in
      let offset = ap (λ (r : TableRow). r.offset) record_is in
      let len = ap (λ (r : TableRow). r.len) record_is in
      omega (arith, record_item.inside, record_item.ends, offset, len, ap length bytes)

  -- the tasks after the row
  abbrev then_fields : List Task
  then_fields = fields (record_kinds (record_in d.bytes the_record)) (data_start (record_in d.bytes the_record)) ∷ []

  row_goes : (t : Sheet) → (k ≤ s.at.left) × FillsTo s t (with_name (listing s) labels k row) → (n : ℕ) → 1 ≤ n
      → Goes d.bytes (items section n ∷ []) d.index s (then_fields ++ items section (n - 1) ∷ []) after.index t
  row_goes t (few, puts) n some =
      goes_step (resource other some record_item few) (subst (λ r. FillsTo s t (with_name (listing s) labels k r)) record_is puts)

  pub record_halts : (failure : Failure) → NotListed s labels k row failure → HaltsAtOne section d.bytes d.index s failure
  record_halts failure (inl (is, more)) n some =
      let item = subst (λ (r : Rest). ItemAt r d.bytes d.index the_record after.index k) (sym (other_rest section other)) record_item in
      halts_task (items section n) (some, TooManyPointers, (the_record, after.index, k, item, more), is)
  record_halts failure (inr (is, few, much)) n some =
      halts_step (resource other some record_item few)
      (subst (λ r. Exceeds (length s.rows) (length s.names) (with_name (listing s) labels k r)) record_is much) is

  module _ (message : List ℕ) (start : Decoder) (kinds : List Kind) (same : message ≡ after.bytes)
      (start_is : start ≡ record { bytes = slice_range message 0 (row.offset + row.len); index = row.offset })
      (kinds_are : kinds ≡ fields_of (class_code (class_of_code row.record_class)) (type_code (type_of_code row.record_type))
      (drop row.offset (slice_range message 0 (row.offset + row.len)))) where
    bytes_are : message ≡ d.bytes
    bytes_are = same ∙ same_bytes record_rest d at after labels k h room moved

    abbrev start_in : TableRow → List ℕ → Decoder
    start_in r m = record { bytes = slice_range m 0 (r.offset + r.len); index = r.offset }

    abbrev kinds_in : TableRow → List ℕ → List Kind
    kinds_in r m = fields_of (class_code (class_of_code r.record_class)) (type_code (type_of_code r.record_type))
        (drop r.offset (slice_range m 0 (r.offset + r.len)))

    the_start : start ≡ data_start (record_in d.bytes the_record)
    the_start = start_is ∙ ap (start_in row) bytes_are ∙ ap (λ r. start_in r d.bytes) record_is

    the_kinds : kinds ≡ record_kinds (record_in d.bytes the_record)
    the_kinds = kinds_are ∙ ap (kinds_in row) bytes_are ∙ ap (λ r. kinds_in r d.bytes) record_is

    these_fields : fields kinds start ≡ fields (record_kinds (record_in d.bytes the_record)) (data_start (record_in d.bytes the_record))
    these_fields = ap (λ ks. fields ks start) the_kinds ∙ ap (fields (record_kinds (record_in d.bytes the_record))) the_start

    pub record_goes : (t u : Sheet) → (k ≤ s.at.left) × FillsTo s t (with_name (listing s) labels k row)
        → ((b : List ℕ) (p : ℕ) → Goes b (fields kinds start ∷ []) p t [] p u) → GoesByOne section d.bytes d.index s after.index u
    record_goes t u puts more n some =
        let then = subst (λ task. Goes d.bytes (task ∷ []) after.index t [] after.index u) these_fields (more d.bytes after.index) in
        goes_both (row_goes t puts n some) (goes_before then (items section (n - 1) ∷ []))

    pub fields_halt : (t : Sheet) (failure : Failure) → (k ≤ s.at.left) × FillsTo s t (with_name (listing s) labels k row)
        → ((b : List ℕ) (p : ℕ) → HaltsOn b (fields kinds start ∷ []) p t failure) → HaltsAtOne section d.bytes d.index s failure
    fields_halt t failure puts more n some =
        let then = subst (λ task. HaltsOn d.bytes (task ∷ []) after.index t failure) these_fields (more d.bytes after.index) in
        goes_halts (row_goes t puts n some) (halts_before then (items section (n - 1) ∷ []))
