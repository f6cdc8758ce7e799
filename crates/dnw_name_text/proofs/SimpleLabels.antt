-- Labels of characters that stand for themselves, which are read whole.
use Rattle.std.proofs.Common.{◌≡◌, ℕ, zero, suc, ◌+◌, ◌<◌, ◌≤◌, true, false, List, [], ◌∷◌, ◌++◌, length, take, drop, get_or, Ok, refl, sym, ap, ◌∙◌, subst, arith}
use Rattle.std.specs.List.{list_all}
use Rattle.std.specs.Str.{chars, IsUtf8}
use Rattle.std.proofs.lemmas.Bool.{and_parts, le-ltb, ne_eqb}
use Rattle.std.proofs.lemmas.Bool.Decides.{nat_tests}
use Rattle.std.proofs.lemmas.List.{length-take-le, take-append-drop, drop_more}
use Rattle.std.proofs.lemmas.Str.{IsCharBoundary-after_ascii}
use Rattle.dnw_base.specs.Fault.{◌>>=◌}
use Rattle.dnw_base.specs.Labels.{asterisk}
use Rattle.dnw_name_form.specs.LabelText.{dash, dot, may_begin, may_follow}
use Rattle.dnw_name_form.specs.Edits.{with_label}
use Rattle.dnw_name_text.specs.AsciiText.{Outside}
use Rattle.dnw_name_text.specs.Inside.TextReader.{is_simple, is_own, IsSimpleLabel, IsDottedLabel, BeginsWithLabel, name_from_rest}
use Rattle.dnw_name_text.proofs.TextReading.{at_dot, at_last}
use Rattle.dnw_name_text.proofs.LabelTexts.{Reads_own, Reads_rest, all_weaker, own_simple}

-- a text is what is before a byte, the byte, and what is after it
pub parts_at : (bs : List ℕ) (n b : ℕ) → n < length bs → get_or bs n 0 ≡ b → bs ≡ take n bs ++ b ∷ drop (n + 1) bs
parts_at bs n b lt e =
    sym (take-append-drop n bs) ∙ ap (λ (more : List ℕ). take n bs ++ more) (drop_more bs n 0 lt ∙ ap (λ (c : ℕ). c ∷ drop (n + 1) bs) e)

-- such a label is added, and what follows its dot is read on
pub name_from_rest_label : (ls : List (List ℕ)) (label rest : List ℕ) → IsSimpleLabel label
    → name_from_rest ls [] Outside (chars (label ++ dot ∷ rest)) ≡ (with_label ls label >>= (λ longer. name_from_rest longer [] Outside (chars rest)))
name_from_rest_label ls label rest s =
    Reads_rest (Reads_own label s.own) ls [] (dot ∷ rest) ∙ at_dot ls label rest
    ∙ ap (λ r. (r >>= with_label ls) >>= (λ longer. name_from_rest longer [] Outside (chars rest))) s.written

-- the last label is added, and the name is relative
pub name_from_rest_last : (ls : List (List ℕ)) (label : List ℕ) → IsSimpleLabel label
    → name_from_rest ls [] Outside (chars (label ++ [])) ≡ (with_label ls label >>= (λ all. Ok (record { is_fqdn = false; labels = all })))
name_from_rest_last ls label s =
    Reads_rest (Reads_own label s.own) ls [] [] ∙ at_last ls label (ne_eqb (length label) 0 (λ z. let some = s.is_label.not_empty in omega arith))
    ∙ ap (λ r. (r >>= with_label ls) >>= (λ all. Ok (record { is_fqdn = false; labels = all }))) s.written

pub BeginsWithLabel_dotted : (text : List ℕ) (n : ℕ) → IsUtf8 text → IsDottedLabel text n → BeginsWithLabel text n
BeginsWithLabel_dotted text n utf8 d =
    let dotted = d.dotted in
    record {
      inside = d.inside;
      cut = IsCharBoundary-after_ascii text n utf8 d.inside (omega (arith, dotted));
      label = d.simple.is_label;
      read = λ ls.
          ap (λ (t : List ℕ). name_from_rest ls [] Outside (chars t)) (parts_at text n dot d.inside d.dotted)
          ∙ name_from_rest_label ls (take n text) (drop (n + 1) text) d.simple;
    }

follow_simple : (c : ℕ) → is_simple c ≡ true → may_follow c ≡ true
follow_simple c h = grind (arith, nat_tests)

begin_simple : (c : ℕ) → is_simple c ≡ true → (c ≡ dash → ⊥) → may_begin c ≡ true
begin_simple c h ne = grind (arith, nat_tests)

-- the simple characters that a text begins with give a label, if the first is no dash
pub simple_front : (text : List ℕ) (n : ℕ) → n ≤ length text → (n ≡ 0 → ⊥) → n ≤ 63 → (get_or text 0 0 ≡ dash → ⊥)
    → list_all is_simple (take n text) ≡ true → IsSimpleLabel (take n text)
simple_front [] n le some few first simple = absurd (some (omega (arith, le)))
simple_front (c ∷ cs) zero le some few first simple = absurd (some refl)
simple_front (c ∷ cs) (suc n) le some few first simple =
    let both = and_parts (is_simple c) (list_all is_simple (take n cs)) simple in
    let size : length (c ∷ take n cs) ≤ 63 = omega (arith, length-take-le n cs (omega (arith, le)), few) in
    record {
      own = all_weaker is_simple is_own own_simple (c ∷ take n cs) simple;
      is_label = record { not_empty = omega arith; not_long = size };
      written = rw (le-ltb 63 (length (c ∷ take n cs)) size, begin_simple c both.0 first, all_weaker is_simple may_follow follow_simple (take n cs) both.1) refl;
    }

-- an asterisk is a label
pub asterisk_front : (text : List ℕ) → 0 < length text → get_or text 0 0 ≡ asterisk → IsSimpleLabel (take 1 text)
asterisk_front [] some first = absurd (omega (arith, some))
asterisk_front (c ∷ cs) some first =
    subst (λ (b : ℕ). IsSimpleLabel (b ∷ [])) (sym first)
    (record { own = refl; is_label = record { not_empty = omega arith; not_long = omega arith }; written = refl })
