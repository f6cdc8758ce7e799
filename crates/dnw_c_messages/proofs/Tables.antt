-- The table of a whole message.
use Rattle.std.proofs.Common.{◌≡◌, ◌≤◌, ℕ, List, [], ◌++◌, drop, length, slice_range, take, Result, Ok, Err, inr, sym, ap, ◌∙◌, subst, arith}
use Rattle.std.specs.Prelude.{IfErr, IfOk, IsErrAnd}
use Rattle.std.proofs.lemmas.List.{length-take-le}
use lib.ListN.{take-append-drop}
use Rattle.dnw_base.specs.Decoder.{Decoder}
use Rattle.dnw_message_read.specs.Headers.{header_of, header_size}
use Rattle.dnw_message_read.specs.declared.header.HeaderCounts.{HeaderCounts}
use Rattle.dnw_c_base.specs.declared.failure.Failure.{Failure}
use Rattle.dnw_c_messages.specs.Listings.{Listing}
use Rattle.dnw_c_messages.specs.TableCalls.{FailsTable, IsTableOf, PutsListing}
use Rattle.dnw_c_messages.specs.Inside.Sheets.{Goes, HaltsOn, Sheet, listing, section_tasks, sheet}
use Rattle.dnw_c_messages.specs.declared.rows.Listed.{Listed}
use Rattle.dnw_c_messages.specs.declared.rows.TableRow.{TableRow}

-- a failure that a `?` returns
pub gives_err : {T : Type 0} (Is : T → Type 0) (Fails : Failure → Type 0) (r : Result T Failure) (failure : Failure) → IsErrAnd r (λ e. e ≡ failure)
    → Fails failure → IfOk r Is × IfErr r Fails
gives_err Is Fails (Ok value) failure is fails = absurd is
gives_err Is Fails (Err e) failure is fails = (tt, subst Fails (sym is) fails)

-- what is before and after an offset of a buffer that is put
put_there : {A : Type 0} (old new : List A) (n : ℕ) → n ≤ length new → drop n new ≡ drop n old → new ≡ take n new ++ drop (length (take n new)) old
put_there old new n within kept =
    let size = length-take-le n new within in
    sym (take-append-drop n new) ∙ ap (λ l. take n new ++ l) (kept ∙ ap (λ m. drop m old) (sym size))

module _ (b : List ℕ) (most : ℕ) (rows : List TableRow) (names : List ℕ) (counts : HeaderCounts) (d : Decoder) (long : header_size ≤ length b)
    (counts_are : counts ≡ (header_of (slice_range b 0 header_size)).counts) (start : d ≡ record { bytes = b; index = header_size }) where
  abbrev empty : Sheet
  empty = sheet rows names (record { row_count = 0; names_len = 0; left = most })

  pub table_halts : (failure : Failure) → HaltsOn d.bytes (section_tasks counts) d.index empty failure
      → FailsTable b most (length rows) (length names) failure
  table_halts failure h =
      let there = subst (λ (x : Decoder). HaltsOn x.bytes (section_tasks counts) x.index empty failure) start h in
      let all = subst (λ cs. HaltsOn b (section_tasks cs) header_size empty failure) counts_are there in
      inr (long, all.halts [])

  pub table_goes : (new_rows : List TableRow) (new_names : List ℕ) (at : Listed) (q : ℕ)
      → Goes d.bytes (section_tasks counts) d.index empty [] q (sheet new_rows new_names at)
      → (l : Listing) × IsTableOf b most l
      × PutsListing l rows new_rows names new_names (record { row_count = at.row_count; names_len = at.names_len })
  table_goes new_rows new_names at q g =
      let t = sheet new_rows new_names at in
      let there = subst (λ (x : Decoder). Goes x.bytes (section_tasks counts) x.index empty [] q t) start g in
      let all = subst (λ cs. Goes b (section_tasks cs) header_size empty [] q t) counts_are there in
      let o = g.onward in
      let rows_size = length-take-le at.row_count new_rows o.fits.rows in
      let names_size = length-take-le at.names_len new_names o.fits.names in (
        listing t,
        (long, q, all.runs []),
        record {
          rows_put = put_there rows new_rows at.row_count o.fits.rows o.rows_kept;
          names_put = put_there names new_names at.names_len o.fits.names o.names_kept;
          row_count = sym rows_size;
          names_len = sym names_size;
          rows_fit = omega (arith, rows_size, o.fits.rows, o.rows_size);
          names_fit = omega (arith, names_size, o.fits.names, o.names_size);
        },
      )
