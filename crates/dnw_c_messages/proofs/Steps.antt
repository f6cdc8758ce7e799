-- Steps that list a message follow one another.
use Rattle.std.proofs.Common.{◌≡◌, ℕ, List, [], ◌∷◌, ◌++◌, length, length-append, take, inl, inr, sym, subst, arith}
use Rattle.std.proofs.lemmas.List.{length-take-le}
use Rattle.dnw_c_base.specs.declared.failure.Failure.{Failure}
use Rattle.dnw_c_base.specs.declared.failure.Failure.TheVariants.{NoRoom}
use Rattle.dnw_c_messages.specs.Listings.{Exceeds, FailsTask, Halts, Listing, ListSteps, ListStep, Task, here, on, with_row}
use Rattle.dnw_c_messages.specs.Inside.Sheets.{FillsTo, Fits, Goes, HaltsOn, Onward, Sheet, listing, sheet}
use Rattle.dnw_c_messages.specs.declared.rows.Listed.{Listed}
use Rattle.dnw_c_messages.specs.declared.rows.TableRow.{TableRow}
use Rattle.dnw_c_messages.proofs.Sheets.{onward_both, onward_none}

run_on : {b : List ℕ} {ts us vs : List Task} {p q r : ℕ} {l m n : Listing} → ListSteps b ts p l us q m → ListSteps b us q m vs r n → ListSteps b ts p l vs r n
run_on here h = h
run_on (on step rest) h = on step (run_on rest h)

pub goes_none : (b : List ℕ) (ts : List Task) (p : ℕ) (s : Sheet) → Fits s → Goes b ts p s ts p s
goes_none b ts p s fits = record { onward = onward_none s fits; runs = λ others. here }

pub goes_both : {b : List ℕ} {ts us vs : List Task} {p q r : ℕ} {s t u : Sheet} → Goes b ts p s us q t → Goes b us q t vs r u → Goes b ts p s vs r u
goes_both g h = record { onward = onward_both g.onward h.onward; runs = λ others. run_on (g.runs others) (h.runs others) }

-- what is too much for buffers is too much for those before
same_sizes : {s t : Sheet} → Onward s t → (m : Listing) → Exceeds (length t.rows) (length t.names) m → Exceeds (length s.rows) (length s.names) m
same_sizes o m (inl rows) = inl (omega (arith, rows, o.rows_size))
same_sizes o m (inr names) = inr (omega (arith, names, o.names_size))

pub goes_halts : {b : List ℕ} {ts us : List Task} {p q : ℕ} {s t : Sheet} {failure : Failure} → Goes b ts p s us q t → HaltsOn b us q t failure
    → HaltsOn b ts p s failure
goes_halts {b} {ts} {us} {p} {q} {s} {t} {failure} g h = record { halts = λ others. later others (h.halts others) }
  where
    later : (others : List Task) → Halts b (length t.rows) (length t.names) (us ++ others) q (listing t) failure
        → Halts b (length s.rows) (length s.names) (ts ++ others) p (listing s) failure
    later others (inl (task, tasks, r, m, runs, fails)) = inl (task, tasks, r, m, run_on (g.runs others) runs, fails)
    later others (inr (tasks, r, m, runs, much, is)) = inr (tasks, r, m, run_on (g.runs others) runs, same_sizes g.onward m much, is)

-- a step that is put
pub goes_step : {b : List ℕ} {task : Task} {first : List Task} {p q : ℕ} {s t : Sheet} {l : Listing} → ListStep b task p (listing s) first q l → FillsTo s t l
    → Goes b (task ∷ []) p s first q t
goes_step {b} {task} {first} {p} {q} {s} {t} {l} step a = record {
  onward = a.onward;
  runs = λ others. subst (λ m. ListSteps b (task ∷ others) p (listing s) (first ++ others) q m) (sym a.is) (on step here);
}

-- a step that lists nothing
pub goes_quietly : {b : List ℕ} {task : Task} {p : ℕ} {s : Sheet} → Fits s → ListStep b task p (listing s) [] p (listing s) → Goes b (task ∷ []) p s [] p s
goes_quietly {s = s} fits step = record { onward = onward_none s fits; runs = λ others. on step here }

-- a step for which there is no room
pub halts_step : {b : List ℕ} {task : Task} {first : List Task} {p q : ℕ} {s : Sheet} {l : Listing} {failure : Failure} → ListStep b task p (listing s) first q l
    → Exceeds (length s.rows) (length s.names) l → failure ≡ NoRoom → HaltsOn b (task ∷ []) p s failure
halts_step {first = first} {q = q} {l = l} step much is = record { halts = λ others. inr (first ++ others, q, l, on step here, much, is) }

-- a task without a step
pub halts_task : {b : List ℕ} (task : Task) {p : ℕ} {s : Sheet} {failure : Failure} → FailsTask b task p (listing s) failure
    → HaltsOn b (task ∷ []) p s failure
halts_task task {p} {s} fails = record { halts = λ others. inl (task, others, p, listing s, here, fails) }

-- the same before other tasks
pub goes_before : {b : List ℕ} {task : Task} {p q : ℕ} {s t : Sheet} → Goes b (task ∷ []) p s [] q t → (more : List Task) → Goes b (task ∷ more) p s more q t
goes_before g more = record { onward = g.onward; runs = λ others. g.runs (more ++ others) }

pub halts_before : {b : List ℕ} {task : Task} {p : ℕ} {s : Sheet} {failure : Failure} → HaltsOn b (task ∷ []) p s failure → (more : List Task)
    → HaltsOn b (task ∷ more) p s failure
halts_before h more = record { halts = λ others. h.halts (more ++ others) }

-- ---- rows

-- a row for which there is no room
pub no_row : (rows : List TableRow) (names : List ℕ) (at : Listed) (row : TableRow) → at.row_count ≡ length rows
    → Exceeds (length rows) (length names) (with_row (listing (sheet rows names at)) row)
no_row rows names at row full =
    inl (omega (arith, length-append (take at.row_count rows) (row ∷ []), length-take-le at.row_count rows (omega (arith, full)), full))
