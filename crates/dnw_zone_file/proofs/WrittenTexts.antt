-- What is written record by record is a zone file of these records.
use Rattle.std.proofs.Common.{◌≡◌, ℕ, suc, zero, Bool, true, false, List, [], ◌∷◌, ◌++◌, length, codes, decimal, refl, sym, ap, ◌∙◌, subst, arith, append_assoc, append-nil}
use Rattle.std.specs.Prelude.{Ok}
use Rattle.std.specs.List.{AllByRecursion}
use Rattle.std.proofs.lemmas.List.{drop_at}
use Rattle.dnw_name_form.specs.LabelOrder.{AreOctets}
use Rattle.dnw_name_text.specs.NameTexts.{full_name_text}
use Rattle.dnw_record.specs.Records.{RecordValue}
use Rattle.dnw_zone_file.specs.declared.context.Context.{Context}
use Rattle.dnw_zone_file.specs.declared.entry.Entry.{Entry}
use Rattle.dnw_zone_file.specs.declared.entry.Entry.TheVariants.{Nothing, Record as RecordEntry}
use Rattle.dnw_zone_file.specs.declared.entry.ZoneRecord.{ZoneRecord}
use Rattle.dnw_zone_file.specs.declared.step.Found.TheVariants.{Entry as IsOne}
use Rattle.dnw_zone_file.specs.declared.zone_text.OwnedRecord.{OwnedRecord}
use Rattle.dnw_zone_file.specs.Contexts.{with_origin, with_record, with_ttl}
use Rattle.dnw_zone_file.specs.ShortLines.{origin_line, short_head, short_line, short_rest, short_ttl, ttl_line}
use Rattle.dnw_zone_file.specs.Steps.{IsStep}
use Rattle.dnw_zone_file.specs.Written.{IsSameRecord}
use Rattle.dnw_zone_file.specs.WriterLaws.{IsWrittenZone, NothingIsWritten, OriginsAreAdded, OriginsAreEntries, ZoneRecordsAreAdded, ShortLinesAreEntries, ShortLinesAreReadBack, TtlsAreAdded, TtlsAreEntries, WrittenTextsAreRecords}
use Rattle.dnw_zone_file.specs.ZoneTexts.{BeginsWithRecords, IsOfText, TakesEntry, records_of_entry}
use Rattle.dnw_zone_file.proofs.AnyLines.{HasData, IsLine, begins, has_data, line_begins, line_read_back}
use Rattle.dnw_zone_file.proofs.OneMore.{next_records}
use Rattle.dnw_zone_file.proofs.ShortLinesRead.{origin_entry, origin_kept, short_is, ttl_entry, ttl_kept}
use Rattle.dnw_zone_file.proofs.WrittenLines.{printed, read}
use Rattle.dnw_zone_values.specs.Octets.{IsOctets}

-- ---- entries

short_step : (before : Context) (r : RecordValue) (owner text line own rest : List ℕ) (more : Bool) (found : ZoneRecord) → line ≡ short_line (short_ttl before.default_ttl r.ttl) r owner text
    → IsLine before r (owner ++ short_rest (short_ttl before.default_ttl r.ttl) r text) (short_rest (short_ttl before.default_ttl r.ttl) r text) text (short_head before r)
    → HasData before r text own → IsSameRecord r own found
    → IsStep before (line ++ rest) more (record { used = length line; found = Ok (IsOne (RecordEntry found)) }) (with_record before r.owner (short_head before r))
short_step before r owner text line own rest more found whole is has same =
    let left = short_rest (short_ttl before.default_ttl r.ttl) r text in
    let seam : line ≡ (owner ++ left) ++ 10 ∷ [] = whole in
    subst (λ (t : List ℕ). IsStep before (t ++ rest) more (record { used = length t; found = Ok (IsOne (RecordEntry found)) }) (with_record before r.owner (short_head before r))) (sym seam)
    (line_begins before r (owner ++ left) left text own rest (short_head before r) more found is has same)

pub short_lines : ShortLinesAreEntries
short_lines before b p e r line rest more h at (owner, text, owner_is, print, whole) =
    let (own, plain, has) = has_data before b p e r text h at print in (
      own,
      plain,
      λ fine found same.
          let (_, _, zone) = fine in
          let is = short_is before r owner text (read b p e r h at) (printed b p e r h at zone) owner_is in
          short_step before r owner text line own rest more found whole is (has fine) same,
    )

pub short_lines_back : ShortLinesAreReadBack
short_lines_back before after b p e r line rest more entry used h at (owner, text, owner_is, print, whole) step octets =
    let left = short_rest (short_ttl before.default_ttl r.ttl) r text in
    let (own, plain, has) = has_data before b p e r text h at print in
    let seam : line ≡ (owner ++ left) ++ 10 ∷ [] = whole in
    let moved = subst (λ (t : List ℕ). IsStep before (t ++ rest) more (record { used = used; found = Ok (IsOne entry) }) after) seam step in (
      own,
      plain,
      λ fine.
          let (_, _, zone) = fine in
          let is = short_is before r owner text (read b p e r h at) (printed b p e r h at zone) owner_is in
          let (same, size, context) = line_read_back before after r (owner ++ left) left text own rest (short_head before r) more entry used is (has fine) moved octets in
          (same, size ∙ ap length (sym seam), context),
    )

fits : (label : List ℕ) → AreOctets label → IsOctets label
fits [] h i = omega arith
fits (o ∷ label) h zero = h.0
fits (o ∷ label) h (suc i) = fits label h.1 i

all_fit : (labels : List (List ℕ)) → AllByRecursion AreOctets labels → AllByRecursion IsOctets labels
all_fit [] h = tt
all_fit (label ∷ labels) h = (fits label h.0, all_fit labels h.1)

pub origins : OriginsAreEntries
origins before labels rest more are h =
    begins before (with_origin before (record { is_fqdn = true; labels = labels })) (codes "$ORIGIN " ++ full_name_text labels) rest more Nothing
    (origin_kept labels (all_fit labels h)) (origin_entry before labels are (all_fit labels h))

pub ttls : TtlsAreEntries
ttls before ttl rest more few =
    begins before (with_ttl before ttl) (codes "$TTL " ++ decimal ttl) rest more Nothing (ttl_kept ttl few) (ttl_entry before ttl few)

-- ---- whole texts

-- an entry more
added : (first before after : Context) (old line : List ℕ) (records more : List OwnedRecord) (entry : Entry) → IsWrittenZone first old records before
    → ((rest : List ℕ) → IsStep before (line ++ rest) false (record { used = length line; found = Ok (IsOne entry) }) after) → IsOfText entry
    → more ≡ records ++ records_of_entry entry after.owner → IsWrittenZone first (old ++ line) more after
unfolding TakesEntry
added first before after old line records more entry (n, so_far) step of_text e = (
  suc n,
  λ rest.
      let takes : TakesEntry before (line ++ rest) entry (length line) after = step rest in
      subst (λ (t : List ℕ). BeginsWithRecords (suc n) first t more rest after) (sym (append_assoc old line rest))
      (next_records n first before after (old ++ (line ++ rest)) (line ++ rest) rest records more entry (length line) (so_far (line ++ rest)) takes of_text e (sym (drop_at line rest _ refl))),
)

pub records_added : ZoneRecordsAreAdded
records_added first before after old new b p e r records so_far h at (line, (owner, text, owner_is, print, whole), new_is, after_is) =
    let (own, plain, has) = has_data before b p e r text h at print in
    let context = with_record before r.owner (short_head before r) in (
      own,
      plain,
      λ fine found same.
          let (_, _, zone) = fine in
          let is = short_is before r owner text (read b p e r h at) (printed b p e r h at zone) owner_is in
          let more : List OwnedRecord = records ++ record { owner = r.owner; body = found } ∷ [] in
          subst (λ (c : Context). IsWrittenZone first new more c) (sym after_is)
          (subst (λ (t : List ℕ). IsWrittenZone first t more context) (sym new_is)
          (added first before context old line records more (RecordEntry found) so_far (λ rest. short_step before r owner text line own rest false found whole is (has fine) same) tt refl)),
    )

pub origins_added : OriginsAreAdded
origins_added first before after old new origin records so_far are h (new_is, after_is) =
    let context = with_origin before (record { is_fqdn = true; labels = origin.labels }) in
    subst (λ (c : Context). IsWrittenZone first new records c) (sym after_is)
    (subst (λ (t : List ℕ). IsWrittenZone first t records context) (sym new_is)
    (added first before context old (origin_line origin.labels) records records Nothing so_far (λ rest. origins before origin.labels rest false are h) tt (sym (append-nil records))))

pub ttls_added : TtlsAreAdded
ttls_added first before after old new ttl records so_far few (new_is, after_is) =
    let context = with_ttl before ttl in
    subst (λ (c : Context). IsWrittenZone first new records c) (sym after_is)
    (subst (λ (t : List ℕ). IsWrittenZone first t records context) (sym new_is)
    (added first before context old (ttl_line ttl) records records Nothing so_far (λ rest. ttls before ttl rest false few) tt (sym (append-nil records))))

pub nothing_written : NothingIsWritten
nothing_written first = (zero, λ rest. (refl, refl, refl))

pub whole_texts : WrittenTextsAreRecords
whole_texts origin first after text records is (n, so_far) =
    (n, first, after, is, subst (λ (t : List ℕ). BeginsWithRecords n first t records [] after) (append-nil text) (so_far []))
