-- A line that is written of a record begins a text whose first entry is that record, and is read as no other.
use Rattle.std.proofs.Common.{◌≡◌, ℕ, true, List, refl, sym, ap, ◌∙◌, subst}
use Rattle.std.specs.Prelude.{Option, Some}
use Rattle.dnw_record.specs.Records.{RecordValue}
use Rattle.dnw_zone_data.specs.Words.{after_word, word}
use Rattle.dnw_zone_file.specs.declared.context.Context.{Context}
use Rattle.dnw_zone_file.specs.declared.entry.Entry.{Entry}
use Rattle.dnw_zone_file.specs.declared.entry.LineKind.{LineKind}
use Rattle.dnw_zone_file.specs.declared.entry.LineKind.TheVariants.{OwnerFirst}
use Rattle.dnw_zone_file.specs.Entries.{owner_at, IsEntry, IsEntryBy, IsOwned, IsZoneRecord}
use Rattle.dnw_zone_file.specs.WriterLaws.{LinesAreEntries, LinesAreReadBack}
use Rattle.dnw_zone_file.specs.Written.{written_head}
use Rattle.dnw_zone_file.proofs.AnyLines.{IsLine, has_data, line_begins, line_read_back}
use Rattle.dnw_zone_file.proofs.WrittenLines.{IsPrinted, begins_owner, kind_of, starts, line_kept, owner_first, owner_is, printed, read, zone_head}
use Rattle.dnw_zone_record.specs.Lines.{is_indented}
use Rattle.dnw_zone_record.specs.RecordLines.{record_line}
use Rattle.dnw_zone_record.proofs.LinesBack.{IsReadRecord, line_rest, split}

-- a line whose first word is the owner, and what is after it
pub by_owner : (before : Context) (owner : List (List ℕ)) (line left : List ℕ) (entry : Entry) (after : Context) → begins_owner line ≡ true
    → owner_at before.origin (word line) ≡ Some owner → after_word line ≡ left → IsZoneRecord before owner left entry after
    → IsEntry before (is_indented line) line entry after
by_owner before owner line left entry after first named rest is =
    let start = starts line first in
    let owned : IsOwned (Some owner) before (after_word line) entry after = subst (λ (xs : List ℕ). IsOwned (Some owner) before xs entry after) (sym rest) is in
    (OwnerFirst, word line, after_word line, sym (kind_of line first), ap word (sym start), ap after_word (sym start), (Some owner, sym named, owned))

pub owner_only : (before : Context) (owner : List (List ℕ)) (line left : List ℕ) (entry : Entry) (after : Context) → begins_owner line ≡ true
    → owner_at before.origin (word line) ≡ Some owner → after_word line ≡ left → IsEntry before (is_indented line) line entry after
    → IsZoneRecord before owner left entry after
owner_only before owner line left entry after begins named rest_is (kind, first, rest, k, f, l, by) =
    let start = starts line begins in
    let kinds : kind ≡ OwnerFirst = k ∙ kind_of line begins in
    let (found, o, owned_by) = subst (λ (x : LineKind). IsEntryBy x before line first rest entry after) kinds by in
    let owners : found ≡ Some owner = o ∙ ap (owner_at before.origin) (f ∙ ap word start) ∙ named in
    subst (λ (x : List ℕ). IsOwned (Some owner) before x entry after) (l ∙ ap after_word start ∙ rest_is) (subst (λ (x : Option (List (List ℕ))). IsOwned x before rest entry after) owners owned_by)

full_line : (before : Context) (r : RecordValue) (text : List ℕ) → IsReadRecord r → IsPrinted r → IsLine before r (record_line r text) (line_rest r text) text (written_head r)
full_line before r text is fits =
    let parts = split (Some before.origin) r text is in
    let begins = owner_first r text is in
    let named = owner_is before.origin r text is in
    record {
      kept = λ kept. line_kept r text is fits kept;
      is = λ entry after record_is. by_owner before r.owner (record_line r text) (line_rest r text) entry after begins named parts.left record_is;
      only = λ entry after entry_is. owner_only before r.owner (record_line r text) (line_rest r text) entry after begins named parts.left entry_is;
      head_is = zone_head r text fits;
      ttl = refl;
      class = refl;
      kind = refl;
    }

pub lines_are_entries : LinesAreEntries
lines_are_entries before b p e r text rest more h at print =
    let (own, plain, has) = has_data before b p e r text h at print in (
      own,
      plain,
      λ fine found same.
          let (_, _, zone) = fine in
          let line = full_line before r text (read b p e r h at) (printed b p e r h at zone) in
          line_begins before r (record_line r text) (line_rest r text) text own rest (written_head r) more found line (has fine) same,
    )

pub lines_are_read_back : LinesAreReadBack
lines_are_read_back before after b p e r text rest more entry used h at print step octets =
    let (own, plain, has) = has_data before b p e r text h at print in (
      own,
      plain,
      λ fine.
          let (_, _, zone) = fine in
          let line = full_line before r text (read b p e r h at) (printed b p e r h at zone) in
          line_read_back before after r (record_line r text) (line_rest r text) text own rest (written_head r) more entry used line (has fine) step octets,
    )
