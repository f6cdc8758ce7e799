-- Records of a zone file whose rows and octets are put one after the other.
use Rattle.std.proofs.Common.{◌≡◌, ◌≤◌, ◌<◌, ℕ, ◌+◌, Bool, List, [], ◌∷◌, ◌++◌, length, take, drop, slice_set, refl, sym, ap, ◌∙◌, subst, inl, inr, arith, append_assoc, length-append}
use Rattle.std.specs.Prelude.{IfErr, Result, Ok, Err}
use Rattle.std.proofs.lemmas.List.{drop-drop, drop-set, take-append-drop, take-set, take_at}
use Rattle.std.proofs.lemmas.Slice.{drop-append-drop}
use Rattle.dnw_c_base.specs.Results.{IsStored}
use Rattle.dnw_c_base.specs.declared.failure.Failure.{Failure}
use Rattle.dnw_c_zone.specs.Inside.RowSteps.{AddsEntry, AddsRow, IsRowStep, IsRunTo, with_read}
use Rattle.dnw_c_zone.specs.ZoneEntries.{zone_record_octets}
use Rattle.dnw_c_zone.specs.ZoneRows.{HasNoRow, HasRecordRoom, IsRunOn, LacksRecordRoom, PutsRun, ReadsInTurn, ZoneRun, kind_of_found, none, nothing_read, one_more, run_on, run_with, zone_row}
use Rattle.dnw_c_zone.specs.ZoneStates.{owner_form}
use Rattle.dnw_c_zone.specs.declared.zone_rows.ZoneRead.{ZoneRead}
use Rattle.dnw_c_zone.specs.declared.zone_rows.ZoneRow.{ZoneRow}
use Rattle.dnw_c_zone.specs.declared.zone_state.ZoneState.{ZoneState}
use Rattle.dnw_c_zone.proofs.RecordPuts.{put_more}
use Rattle.dnw_name_read.specs.Buffers.{put}
use Rattle.dnw_zone_file.specs.Steps.{IsStep}
use Rattle.dnw_zone_file.specs.declared.context.Context.{Context}
use Rattle.dnw_zone_file.specs.declared.entry.Entry.{Entry}
use Rattle.dnw_zone_file.specs.declared.entry.Entry.TheVariants.{Nothing, Record as RecordEntry, Include as IncludeEntry}
use Rattle.dnw_zone_file.specs.declared.entry.ZoneRecord.{ZoneRecord}
use Rattle.dnw_zone_file.specs.declared.error.ZoneError.{ZoneError}
use Rattle.dnw_zone_file.specs.declared.step.Found.{Found}
use Rattle.dnw_zone_file.specs.declared.step.Found.TheVariants.{Entry as IsOne, End, More}
use Rattle.dnw_zone_file.specs.declared.step.Step.{Step}

-- an item that is put after those at the front of a buffer
put_item : {A : Type 0} (old now front : List A) (x : A) (n : ℕ) → n ≡ length front → n < length now → now ≡ front ++ drop (length front) old
    → slice_set now n x ≡ (front ++ x ∷ []) ++ drop (length (front ++ x ∷ [])) old
put_item {A} old now front x n at inside so =
    let whole : now ≡ front ++ drop n old = so ∙ ap (λ (m : ℕ). front ++ drop m old) (sym at) in
    let first : take n now ≡ front = ap (take n) whole ∙ take_at front (drop n old) n (sym at) in
    let rest : drop (n + 1) now ≡ drop (n + 1) old = ap (drop (n + 1)) whole ∙ drop-append-drop n old front (n + 1) (omega arith) (sym at) in
    let size : n + 1 ≡ length (front ++ x ∷ []) = omega (arith, at, length-append front (x ∷ [])) in
    sym (take-append-drop n (slice_set now n x))
    ∙ ap (λ (l : List A). l ++ drop n (slice_set now n x)) (take-set now n x ∙ first)
    ∙ ap (λ (l : List A). front ++ l) (drop-set now n x inside ∙ ap (λ (l : List A). x ∷ l) (rest ∙ ap (λ (m : ℕ). drop m old) size))
    ∙ sym (append_assoc front (x ∷ []) (drop (length (front ++ x ∷ [])) old))

-- octets that are put at the front of what is left of a buffer
put_own : (old now new front piece : List ℕ) (n : ℕ) → n ≡ length front → now ≡ put old front → new ≡ take n now ++ put (drop n now) piece
    → new ≡ put old (front ++ piece)
put_own old now new front piece n at so is =
    put_more old now new front piece n at so
    (is ∙ ap (λ (xs : List ℕ). take n now ++ (piece ++ xs)) (drop-drop (length piece) n now) ∙ sym (append_assoc (take n now) piece (drop (n + length piece) now)))

-- Entries of a text are read so far, and there may be more.
pub record Reading (text : List ℕ) (more : Bool) (first : Context) (rows now_rows : List ZoneRow) (octets now_octets : List ℕ) (read : ZoneRead) (known : Context) : Type 0 where
  pub run : ZoneRun
  pub reads : ReadsInTurn text more (length rows) (length octets) first run
  pub puts : PutsRun run rows now_rows octets now_octets read.used read.row_count read.octets_len
  pub known_is : known ≡ run.known
  pub next_is : read.next ≡ 3
  pub within : read.used ≤ length text
  pub rows_size : length now_rows ≡ length rows
  pub octets_size : length now_octets ≡ length octets

pub reading_none : (text : List ℕ) (more : Bool) (first : Context) (rows : List ZoneRow) (octets : List ℕ)
    → Reading text more first rows rows octets octets (record { used = 0; row_count = 0; octets_len = 0; next = 3 }) first
reading_none text more first rows octets = record {
  run = nothing_read first;
  reads = none;
  puts = record { rows_put = refl; octets_put = refl; used_is = refl; row_count_is = refl; octets_len_is = refl; rows_fit = omega arith; octets_fit = omega arith };
  known_is = refl;
  next_is = refl;
  within = omega arith;
  rows_size = refl;
  octets_size = refl;
}

module _ {text : List ℕ} {more : Bool} {first : Context} {rows now_rows : List ZoneRow} {octets now_octets : List ℕ} {read : ZoneRead} {known : Context}
    (g : Reading text more first rows now_rows octets now_octets read known) where
  -- what is next of the text, after what was read of it
  step_after : (step : Step) (after : Context) → IsStep known (drop read.used text) more step after → IsStep g.run.known (drop g.run.used text) more step after
  step_after step after is =
      subst (λ (n : ℕ). IsStep g.run.known (drop n text) more step after) g.puts.used_is
      (subst (λ (c : Context). IsStep c (drop read.used text) more step after) g.known_is is)

  room_after : HasRecordRoom (length now_rows) (length now_octets) read.row_count read.octets_len → HasRecordRoom (length rows) (length octets) (length g.run.rows) (length g.run.octets)
  room_after room =
      let r = g.rows_size in
      let o = g.octets_size in
      let m = g.puts.row_count_is in
      let n = g.puts.octets_len_is in
      (omega (arith, room.0, r, m), omega (arith, room.1, o, n))

  -- an entry more, of which these are the run, the buffers, and how far they are filled
  reading_next : (entry : Entry) (used : ℕ) (after : Context) (run : ZoneRun) (new_rows : List ZoneRow) (new_octets : List ℕ) (next : ZoneRead)
      → HasRecordRoom (length now_rows) (length now_octets) read.row_count read.octets_len
      → IsStep known (drop read.used text) more (record { used = used; found = Ok (IsOne entry) }) after → IsRunOn entry g.run used after run
      → PutsRun run rows new_rows octets new_octets next.used next.row_count next.octets_len → after ≡ run.known → next.next ≡ read.next
      → next.used ≤ length text → length new_rows ≡ length now_rows → length new_octets ≡ length now_octets
      → Reading text more first rows new_rows octets new_octets next after
  reading_next entry used after run new_rows new_octets next room is on puts same kept within rows_same octets_same = record {
    run = run;
    reads = one_more g.run run entry used after g.reads (room_after room) (step_after _ after is) on;
    puts = puts;
    known_is = same;
    next_is = kept ∙ g.next_is;
    within = within;
    rows_size = rows_same ∙ g.rows_size;
    octets_size = octets_same ∙ g.octets_size;
  }

  -- what is put of a record more
  puts_record : (used : ℕ) (after : Context) (r : ZoneRecord) (new_rows : List ZoneRow) (new_octets : List ℕ) (next : ZoneRead)
      → HasRecordRoom (length now_rows) (length now_octets) read.row_count read.octets_len
      → AddsRow (owner_form after.owner) r now_rows new_rows now_octets new_octets read next
      → PutsRun (run_with g.run used after r) rows new_rows octets new_octets (read.used + used) next.row_count next.octets_len
  puts_record used after r new_rows new_octets next room adds =
      let owner : List ℕ = owner_form after.owner in
      let own : List ℕ = zone_record_octets owner r in
      let row : ZoneRow = zone_row g.run.used (length g.run.octets) owner r in
      let row_is : zone_row read.used read.octets_len owner r ≡ row =
      ap (λ (n : ℕ). zone_row n read.octets_len owner r) g.puts.used_is ∙ ap (λ (n : ℕ). zone_row g.run.used n owner r) g.puts.octets_len_is in
      let count : next.row_count ≡ read.row_count + 1 = ap (λ (x : ZoneRead). x.row_count) adds.counts in
      let len : next.octets_len ≡ read.octets_len + length own = ap (λ (x : ZoneRead). x.octets_len) adds.counts in
      let rows_len = length-append g.run.rows (row ∷ []) in
      let octets_len = length-append g.run.octets own in
      let m = g.puts.row_count_is in
      let n = g.puts.octets_len_is in
      record {
        rows_put = adds.row ∙ ap (slice_set now_rows read.row_count) row_is ∙ put_item rows now_rows g.run.rows row read.row_count m room.0 g.puts.rows_put;
        octets_put = put_own octets now_octets new_octets g.run.octets own read.octets_len n g.puts.octets_put adds.own;
        used_is = ap (λ (k : ℕ). k + used) g.puts.used_is;
        row_count_is = omega (arith, count, rows_len, m);
        octets_len_is = omega (arith, len, octets_len, n);
        rows_fit = omega (arith, rows_len, m, room.0, g.rows_size);
        octets_fit = omega (arith, octets_len, n, adds.fits, g.octets_size);
      }

  pub reading_on : (found : Result Found ZoneError) (used : ℕ) (after : Context) (new_rows : List ZoneRow) (new_octets : List ℕ) (next : ZoneRead)
      → HasRecordRoom (length now_rows) (length now_octets) read.row_count read.octets_len
      → IsStep known (drop read.used text) more (record { used = used; found = found }) after → read.used + used ≤ length text
      → AddsEntry found used after now_rows new_rows now_octets new_octets read next → length new_rows ≡ length now_rows
      → length new_octets ≡ length now_octets → Reading text more first rows new_rows octets new_octets next after
  reading_on (Ok (IsOne Nothing)) used after new_rows new_octets next room is within (rows_same, octets_same, so) rows_len octets_len =
      rw (rows_same, octets_same, so)
      (reading_next Nothing used after (run_on g.run used after) now_rows now_octets (record read { used = read.used + used }) room is refl
      (record {
        rows_put = g.puts.rows_put;
        octets_put = g.puts.octets_put;
        used_is = ap (λ (n : ℕ). n + used) g.puts.used_is;
        row_count_is = g.puts.row_count_is;
        octets_len_is = g.puts.octets_len_is;
        rows_fit = g.puts.rows_fit;
        octets_fit = g.puts.octets_fit;
      }) refl refl within refl refl)
  reading_on (Ok (IsOne (RecordEntry r))) used after new_rows new_octets next room is within (between, adds, so) rows_len octets_len =
      rw so
      (reading_next (RecordEntry r) used after (run_with g.run used after r) new_rows new_octets (record between { used = read.used + used }) room is refl
      (puts_record used after r new_rows new_octets between room adds) refl (ap (λ (x : ZoneRead). x.next) adds.counts) within rows_len octets_len)
  reading_on (Ok (IsOne (IncludeEntry include))) used after new_rows new_octets next room is within adds rows_len octets_len = absurd adds
  reading_on (Ok End) used after new_rows new_octets next room is within adds rows_len octets_len = absurd adds
  reading_on (Ok More) used after new_rows new_octets next room is within adds rows_len octets_len = absurd adds
  reading_on (Err error) used after new_rows new_octets next room is within adds rows_len octets_len = absurd adds

  -- what comes next has no row
  pub reading_stops : (step : Step) (after : Context) (new_rows : List ZoneRow) (new_octets : List ℕ) (next : ZoneRead)
      → HasRecordRoom (length now_rows) (length now_octets) read.row_count read.octets_len → IsStep known (drop read.used text) more step after
      → HasNoRow step.found × (new_rows ≡ now_rows) × (new_octets ≡ now_octets) × (next ≡ record read { next = kind_of_found step.found })
      → IsRowStep step.found known after → IsRunTo text more first rows new_rows octets new_octets next after
  reading_stops step after new_rows new_octets next room is (no_row, rows_same, octets_same, so) row_step =
      rw (rows_same, octets_same, so)
      (g.run, (g.reads, inr (room_after room, step, after, step_after step after is, no_row, refl), g.puts), row_step.stays no_row ∙ g.known_is)

  -- there is no room for a record more
  pub reading_full : LacksRecordRoom (length now_rows) (length now_octets) read.row_count read.octets_len
      → IsRunTo text more first rows now_rows octets now_octets read known
  reading_full lacks =
      let r = g.rows_size in
      let o = g.octets_size in
      let m = g.puts.row_count_is in
      let n = g.puts.octets_len_is in
      let full : LacksRecordRoom (length rows) (length octets) (length g.run.rows) (length g.run.octets) = elim lacks [
        | inl few ↦ inl (omega (arith, few, r, m))
        | inr little ↦ inr (omega (arith, little, o, n))
      ] in
      (g.run, (g.reads, inl (full, g.next_is), g.puts), g.known_is)

-- what was read that is stored, and a state that is changed in its place
pub stored_read : (r : Result ZoneRead Failure) (old new : ZoneRead) (before after : ZoneState) (code : ℕ) → IsStored r old new code
    → IfErr r (λ _. after ≡ before) → IsStored (with_read r after) (old, before) (new, after) code
stored_read (Ok read) old new before after code is same =
    record { value = (is.value.0, ap (λ (x : ZoneRead). (x, after)) is.value.1); failure = tt; zero = is.zero }
stored_read (Err why) old new before after code is same = record {
  value = tt;
  failure = (is.failure.0, ap (λ (x : ZoneRead). (x, after)) is.failure.1 ∙ ap (λ (x : ZoneState). (old, x)) same);
  zero = is.zero;
}
