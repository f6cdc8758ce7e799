-- Rows and names that are put one after another.
use Rattle.std.proofs.Common.{◌≡◌, ◌≤◌, ℕ, ◌+◌, ◌-◌, List, [], ◌∷◌, ◌++◌, append_assoc, append-nil, drop, length, length-append, take, refl, sym, ap, ◌∙◌, arith}
use Rattle.std.proofs.lemmas.List.{drop_all, drop_at, drop-drop, length-drop, length-take-le, take_all, take_at}
use borrow.Rule.Slice.PartMut.{put_mid}
use Rattle.dnw_base.specs.Names.{wire}
use Rattle.dnw_name_read.specs.Buffers.{put}
use Rattle.dnw_c_messages.specs.Listings.{Listing, named, with_name, with_row}
use Rattle.dnw_c_messages.specs.Inside.Sheets.{FillsTo, Fits, Onward, RowsAdvance, Sheet, listing, sheet}
use Rattle.dnw_c_messages.specs.declared.rows.Listed.{Listed}
use Rattle.dnw_c_messages.specs.declared.rows.TableRow.{TableRow}

-- ---- octets that are put at an offset

module _ (a : ℕ) (xs w : List ℕ) (start : a ≤ length xs) (room : length w ≤ length xs - a) where
  abbrev filled : List ℕ
  filled = put_mid a (length xs - a) xs (put (drop a xs) w)

  front_size : length (take a xs ++ w) ≡ a + length w
  front_size = omega (arith, length-append (take a xs) w, length-take-le a xs start)

  in_front : filled ≡ (take a xs ++ w) ++ drop (a + length w) xs
  in_front =
      let none : drop (length xs - a) (drop a xs) ≡ [] = drop_all (length xs - a) (drop a xs) (omega (arith, length-drop a xs)) in
      let behind : (w ++ drop (length w) (drop a xs)) ++ [] ≡ w ++ drop (a + length w) xs =
      append-nil (w ++ drop (length w) (drop a xs)) ∙ ap (λ l. w ++ l) (drop-drop (length w) a xs) in
      ap (λ l. take a xs ++ ((w ++ drop (length w) (drop a xs)) ++ l)) none ∙ ap (λ l. take a xs ++ l) behind
      ∙ sym (append_assoc (take a xs) w (drop (a + length w) xs))

  filled_front : take (a + length w) filled ≡ take a xs ++ w
  filled_front = ap (take (a + length w)) in_front ∙ take_at (take a xs ++ w) (drop (a + length w) xs) (a + length w) front_size

  filled_rest : drop (a + length w) filled ≡ drop (a + length w) xs
  filled_rest = ap (drop (a + length w)) in_front ∙ drop_at (take a xs ++ w) (drop (a + length w) xs) (a + length w) front_size

  filled_size : length filled ≡ length xs
  filled_size =
      omega (arith, ap length in_front, length-append (take a xs ++ w) (drop (a + length w) xs), front_size, length-drop (a + length w) xs, room, start)

-- what is alike after an offset is alike after a later one
pub drop_later : {A : Type 0} (n m : ℕ) (xs ys : List A) → n ≤ m → drop n xs ≡ drop n ys → drop m xs ≡ drop m ys
drop_later n m xs ys le same =
    let later : n + (m - n) ≡ m = omega arith in
    ap (λ k. drop k xs) (sym later) ∙ sym (drop-drop (m - n) n xs) ∙ ap (drop (m - n)) same ∙ drop-drop (m - n) n ys ∙ ap (λ k. drop k ys) later

pub onward_none : (s : Sheet) → Fits s → Onward s s
onward_none s fits = record {
  fits = fits;
  rows_size = refl;
  names_size = refl;
  rows_from = omega arith;
  names_from = omega arith;
  rows_kept = refl;
  names_kept = refl;
}

pub onward_both : {s t u : Sheet} → Onward s t → Onward t u → Onward s u
onward_both {s} {t} {u} g h = record {
  fits = h.fits;
  rows_size = h.rows_size ∙ g.rows_size;
  names_size = h.names_size ∙ g.names_size;
  rows_from = omega (arith, g.rows_from, h.rows_from);
  names_from = omega (arith, g.names_from, h.names_from);
  rows_kept = h.rows_kept ∙ drop_later t.at.row_count u.at.row_count t.rows s.rows h.rows_from g.rows_kept;
  names_kept = h.names_kept ∙ drop_later t.at.names_len u.at.names_len t.names s.names h.names_from g.names_kept;
}

same_listing : (rows rows' : List TableRow) (names names' : List ℕ) (left : ℕ) → rows ≡ rows' → names ≡ names'
    → ◌≡◌ {A = Listing} (record { rows = rows; names = names; left = left }) (record { rows = rows'; names = names'; left = left })
same_listing rows rows' names names' left r n = rw (r, n) refl

-- a name that is put before its row
pub name_advances : (rows new : List TableRow) (names form : List ℕ) (at after : Listed) (ls : List (List ℕ)) (n k : ℕ) (row : TableRow)
    → at.names_len ≤ length names → n ≡ length (wire ls)
    → length (wire ls) ≤ length (take (length names - at.names_len) (drop at.names_len names))
    → form ≡ put (take (length names - at.names_len) (drop at.names_len names)) (wire ls)
    → RowsAdvance rows new (record { row_count = at.row_count; names_len = at.names_len + n; left = at.left - k }) after
    (λ l. with_row l (named row at.names_len n))
    → FillsTo (sheet rows names at) (sheet new (put_mid at.names_len (length names - at.names_len) names form) after)
    (with_name (listing (sheet rows names at)) ls k row)
name_advances rows new names form at after ls n k row within size_is few is puts =
    let a = at.names_len in
    let w = wire ls in
    let all : take (length names - a) (drop a names) ≡ drop a names = take_all (length names - a) (drop a names) (omega (arith, length-drop a names)) in
    let form_is : form ≡ put (drop a names) w = is ∙ ap (λ l. put l w) all in
    let room : length w ≤ length names - a = omega (arith, few, ap length all, length-drop a names) in
    let now = put_mid a (length names - a) names form in
    let now_is : now ≡ put_mid a (length names - a) names (put (drop a names) w) = ap (put_mid a (length names - a) names) form_is in
    let size : length now ≡ length names = ap length now_is ∙ filled_size a names w within room in
    let front : take (a + n) now ≡ take a names ++ w =
    ap (λ m. take (a + m) now) size_is ∙ ap (take (a + length w)) now_is ∙ filled_front a names w within room in
    let rest : drop (a + n) now ≡ drop (a + n) names =
    ap (λ m. drop (a + m) now) size_is ∙ ap (drop (a + length w)) now_is ∙ filled_rest a names w within room ∙ ap (λ m. drop (a + m) names) (sym size_is) in
    let place : length (take a names) ≡ a = length-take-le a names within in
    let h = puts now (omega (arith, size, room, within, size_is)) in
    let o = h.onward in
    let row_is : named row a n ≡ named row (length (take a names)) (length w) =
    ap (named row a) size_is ∙ ap (λ p. named row p (length w)) (sym place) in
    record {
      onward = record {
        fits = o.fits;
        rows_size = o.rows_size;
        names_size = o.names_size ∙ size;
        rows_from = o.rows_from;
        names_from = omega (arith, o.names_from);
        rows_kept = o.rows_kept;
        names_kept = o.names_kept ∙ drop_later (a + n) after.names_len now names o.names_from rest;
      };
      is = h.is ∙ same_listing (take at.row_count rows ++ named row a n ∷ []) (take at.row_count rows ++ named row (length (take a names)) (length w) ∷ [])
          (take (a + n) now) (take a names ++ w) (at.left - k) (ap (λ r. take at.row_count rows ++ r ∷ []) row_is) front;
    }
