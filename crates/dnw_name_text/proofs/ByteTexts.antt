-- The text of a byte that a label's text may have, and the character that it is read as.
use Rattle.std.proofs.Common.{◌≡◌, ℕ, ◌<◌, ◌==◌, ◌&&◌, ◌||◌, Bool, true, false, not, List, [], ◌∷◌, ◌++◌, inl, inr, refl, sym, subst, arith}
use Rattle.std.specs.Char.{is_control, is_whitespace}
use Rattle.std.specs.Str.{IsAscii}
use Rattle.std.proofs.lemmas.Bool.{agree_below, agree_below_at, and_parts, or_cases, not-true, eqb-true, ltb-true}
use Rattle.std.proofs.lemmas.Bool.Decides.{nat_tests}
use Rattle.std.proofs.lemmas.Str.Ascii.{IsAscii-nil, IsAscii-cons}
use Rattle.ucd_category.specs.GeneralCategory.{general_category}
use Rattle.ucd_category.specs.GeneralCategoryRows.{general_category_rows}
use Rattle.ucd_table.specs.Rows.{value_in}
use Rattle.dnw_name_form.specs.LabelText.{dot, backslash, may_begin, may_follow, is_plain, byte_text}
use Rattle.dnw_name_text.specs.AsciiText.{Outside, Char, elements}
use Rattle.dnw_name_text.specs.Inside.TextReader.{is_own}

-- the text of a byte is ASCII, and is read as the character of the byte
pub record IsRead (b : ℕ) (text : List ℕ) : Type 0 where
  pub small : b < 128
  pub ascii : IsAscii text
  pub read : (cs : List ℕ) → elements Outside (text ++ cs) ≡ Char b ∷ elements Outside cs

-- a character that stands for itself outside an escape
abbrev stands : ℕ → Bool
stands b = not (b == dot) && (not (b == backslash) && not (is_control b || is_whitespace b))

IsRead_single : (b : ℕ) → b < 128 → stands b ≡ true → IsRead b (b ∷ [])
IsRead_single b small h =
    let first = and_parts (not (b == dot)) _ h in
    let second = and_parts (not (b == backslash)) _ first.1 in
    record {
      small = small;
      ascii = IsAscii-cons b [] small IsAscii-nil;
      read = λ cs. rw (not-true (b == dot) first.0, not-true (b == backslash) second.0, not-true (is_control b || is_whitespace b) second.1) refl;
    }

-- a dot after a backslash
IsRead_dot : IsRead dot (backslash ∷ dot ∷ [])
unfolding general_category general_category_rows value_in
IsRead_dot = record {
  small = omega arith;
  ascii = IsAscii-cons backslash (dot ∷ []) (omega arith) (IsAscii-cons dot [] (omega arith) IsAscii-nil);
  read = λ cs. refl;
}

-- a byte that stands for itself by a table
pub IsRead_own : (b : ℕ) → is_own b ≡ true → IsRead b (b ∷ [])
IsRead_own b h =
    let small = ltb-true b 128 (and_parts _ _ h).0 in
    IsRead_single b small (rw h at (agree_below_at (λ n. not (is_own n) || stands n) (λ n. true) 128 b refl small))

-- a byte that is a dot, or is written as it is and stands for itself
abbrev shown : (ℕ → Bool) → Bool → ℕ → Bool
shown p first b = not (p b) || (b == dot || (is_plain first b && stands b))

IsRead_by : (p : ℕ → Bool) (first : Bool) (b : ℕ) → agree_below (shown p first) (λ n. true) 128 ≡ true → b < 128 → p b ≡ true → IsRead b (byte_text first b)
IsRead_by p first b table small h =
    elim (or_cases (b == dot) (is_plain first b && stands b) (rw h at (agree_below_at (shown p first) (λ n. true) 128 b table small))) [
      | inl same ↦ subst (λ (n : ℕ). IsRead n (byte_text first n)) (sym (eqb-true b dot same)) IsRead_dot
      | inr plain ↦ let parts = and_parts (is_plain first b) _ plain in rw parts.0 (IsRead_single b small parts.1)
    ]

pub IsRead_begin : (b : ℕ) → may_begin b ≡ true → IsRead b (byte_text true b)
IsRead_begin b h = IsRead_by may_begin true b refl (grind (arith, nat_tests)) h

pub IsRead_follow : (b : ℕ) → may_follow b ≡ true → IsRead b (byte_text false b)
IsRead_follow b h = IsRead_by may_follow false b refl (grind (arith, nat_tests)) h
