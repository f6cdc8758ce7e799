-- A list of names, written name by name.
use Rattle.std.proofs.Common.{◌≡◌, ◌≢◌, ℕ, ◌+◌, ◌<◌, ◌≤◌, List, length, Ok, subst, ◌∙◌, arith}
use Rattle.std.specs.Borrow.{GName}
use Rattle.dnw_base.specs.Decoder.{Decoder}
use Rattle.dnw_base.specs.Limits.{max_pointers}
use Rattle.dnw_write.specs.Encoder.{Encoder}
use Rattle.dnw_c_names.specs.NameLists.{TakesNextName, WritesName, at_first, WritesNames, none, more, FailsToCopyName, StopsWriting, here, later}
use Rattle.dnw_c_base.specs.declared.failure.Failure.{Failure}

-- So many names are read up to the decoder d, and written into v: what is left, from here, gives the whole.
pub record HasWritten (names : List ℕ) (first : Encoder) (loan : GName) (d : Decoder) (left : ℕ) (v : Encoder) (lent : GName)
    (count : ℕ) : Type 0 where
  pub same_list : d.bytes ≡ names
  pub few : count ≤ d.index
  pub within : d.index ≤ length d.bytes
  pub same_loan : lent ≡ loan
  pub goes_on : (others : ℕ) (w : Encoder)
      → WritesNames d left v others w → WritesNames (at_first names) max_pointers first (count + others) w
  pub stops_on : (failure : Failure) → StopsWriting d left v failure → StopsWriting (at_first names) max_pointers first failure

-- one more name
pub written_more : {names : List ℕ} {first v m : Encoder} {loan lent lent' : GName} {d next : Decoder} {most left count : ℕ}
    {labels : List (List ℕ)}
    → HasWritten names first loan d most v lent count → TakesNextName d most labels next left → WritesName labels v (Ok tt) m
    → d.index < next.index → next.index ≤ length next.bytes → next.bytes ≡ d.bytes → lent' ≡ lent
    → HasWritten names first loan next left m lent' (count + 1)
written_more {names} {first} {v} {m} {d = d} {next = next} {most = most} {left = left} {count = count} {labels = labels}
    h takes emits onward within bytes lender = record {
      same_list = bytes ∙ h.same_list;
      few = let few = h.few in omega arith;
      within = within;
      same_loan = lender ∙ h.same_loan;
      goes_on = λ others w rest.
          let whole = h.goes_on (others + 1) w (more d next most left labels v m w others takes emits rest) in
          let P : ℕ → Type 0 = λ n. WritesNames (at_first names) max_pointers first n w in
          let same : count + (others + 1) ≡ count + 1 + others = omega arith in
          subst P same whole;
      stops_on = λ failure stops. h.stops_on failure (later d next most left labels v m failure takes emits stops);
    }

-- a name that is left is refused
pub written_no_more : {names : List ℕ} {first v : Encoder} {loan lent : GName} {d : Decoder} {most count : ℕ}
    {failure : Failure}
    → HasWritten names first loan d most v lent count → d.index ≢ length d.bytes → FailsToCopyName d most v failure
    → StopsWriting (at_first names) max_pointers first failure
written_no_more {v = v} {d = d} {most = most} {failure = failure} h left refuses =
    let within = h.within in
    let before : d.index < length d.bytes = omega (arith, left) in
    h.stops_on failure (here d most v failure before refuses)

-- none is left
pub written_all : {names : List ℕ} {first v : Encoder} {loan lent : GName} {d : Decoder} {left count : ℕ}
    → HasWritten names first loan d left v lent count → d.index ≡ length d.bytes
    → WritesNames (at_first names) max_pointers first count v
written_all {names} {first} {v} {d = d} {left = left} {count = count} h ends =
    let P : ℕ → Type 0 = λ n. WritesNames (at_first names) max_pointers first n v in
    let same : count + 0 ≡ count = omega arith in
    subst P same (h.goes_on 0 v (none d left v ends))
