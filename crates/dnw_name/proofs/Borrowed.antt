-- A name's wire form, as a message that has the name at its start.
use Rattle.std.proofs.Common.{◌≡◌, ℕ, ◌+◌, ◌-◌, List, length, slice_range, refl, ap, zero-add, arith}
use Rattle.std.proofs.lemmas.List.{append-nil, take_all}
use Rattle.std.proofs.lemmas.List.Edits.{between_none}
use Rattle.dnw_base.specs.Names.{AreLabels, encoded_size, wire}
use Rattle.dnw_base.proofs.Wires.{length_wire}
use Rattle.dnw_name_read.specs.Reading.{NameAt}
use Rattle.dnw_name_read.specs.Inside.Found.{NameLiesAt, labels_at}
use Rattle.dnw_name_read.proofs.Back.{NameAt_form}
use Rattle.dnw_name_read.proofs.Found.{labels_at_NameAt}

name_at : (form : List ℕ) (ls : List (List ℕ)) → form ≡ wire ls → AreLabels ls → NameAt form 0 ls (0 + encoded_size ls) 0
name_at form ls is are = NameAt_form form form 0 ls (omega arith) (take_all (length form) form (omega arith)) is are

pub labels_are : (form : List ℕ) (ls : List (List ℕ)) → form ≡ wire ls → AreLabels ls → labels_at form 0 ≡ ls
labels_are form ls is are = labels_at_NameAt form 0 ls (0 + encoded_size ls) 0 (name_at form ls is are)

pub lies_at : (form : List ℕ) (ls : List (List ℕ)) (size count : ℕ) → form ≡ wire ls → AreLabels ls → size ≡ encoded_size ls → count ≡ length ls
    → NameLiesAt form 0 size count size 0
lies_at form ls size count is are size_is count_is =
    let same = labels_are form ls is are in
    let long : length form ≡ size = omega (arith, ap length is, length_wire ls, size_is) in
    let all : slice_range form 0 (0 + size) ≡ form = rw (zero-add, ← long) (take_all (length form - 0) form (omega arith)) in
    let none : 0 + (size - size) ≡ 0 = omega arith in
    record {
      end = 0 + encoded_size ls;
      pointers = 0;
      stands = record {
        name = rw same (name_at form ls is are);
        size_is = rw same size_is;
        count_is = rw same count_is;
      };
      pieces = λ some. record {
        front = omega (arith, long);
        part = omega arith;
        back = omega arith;
        form = rw (none, between_none, append-nil, all, same) is;
      };
      known = λ few. omega (arith, size_is);
      whole = λ none. refl;
    }
