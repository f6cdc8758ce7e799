-- Octets that are kept with no change of place are the line's next ones, all at once.
use Rattle.std.proofs.Common.{◌≡◌, ℕ, ◌-◌, Bool, true, false, List, [], ◌∷◌, ◌++◌, length, take, drop, refl, sym, ap, ◌∙◌, append_assoc, length-append, arith}
use Rattle.std.proofs.lemmas.Bool.Decides.{nat_tests}
use Rattle.std.proofs.lemmas.List.{append-nil, take-append-drop, take_at}
use Rattle.dnw_zone_record.specs.declared.scan.Place.{Place}
use Rattle.dnw_zone_record.specs.declared.scan.Place.TheVariants.{Words, Escaped, Quoted, QuotedEscaped, Comment}
use Rattle.dnw_zone_record.specs.declared.scan.Ending.{Ending}
use Rattle.dnw_zone_record.specs.declared.scan.Octet.{Octet}
use Rattle.dnw_zone_record.specs.declared.scan.Octet.TheVariants.{Kept}
use Rattle.dnw_zone_record.specs.Lines.{end_at, is_kept, kept_len, line_from, line_of, on_octet, added_octet}

pub kept_octet : (place : Place) (depth : ℕ) (c : ℕ) → is_kept place c ≡ true → on_octet place depth c ≡ Kept place
kept_octet Words depth c is = rw is refl
kept_octet Quoted depth c is = grind (arith, nat_tests)
kept_octet Escaped depth c is = grind (arith)
kept_octet QuotedEscaped depth c is = grind (arith)
kept_octet Comment depth c is = grind (arith)

-- one octet more
run_step : (place : Place) (so : List ℕ) (depth : ℕ) (c : ℕ) (cs : List ℕ) (kept : Bool) → is_kept place c ≡ kept
    → line_from (so ++ c ∷ []) place depth cs ≡ line_from ((so ++ c ∷ []) ++ take (kept_len place cs) cs) place depth (drop (kept_len place cs) cs)
    → line_from so place depth (c ∷ cs)
    ≡ line_from (so ++ take (kept_len place (c ∷ cs)) (c ∷ cs)) place depth (drop (kept_len place (c ∷ cs)) (c ∷ cs))
run_step place so depth c cs false is later = rw is (ap (λ (x : List ℕ). line_from x place depth (c ∷ cs)) (sym (append-nil so)))
run_step place so depth c cs true is later =
    rw is
    (ap (λ octet. added_octet octet c (λ o next. line_from (so ++ o ∷ []) next depth cs)
    (λ next within. line_from (so ++ 32 ∷ []) next within cs) (λ ending. (so, ending))) (kept_octet place depth c is)
    ∙ later
    ∙ ap (λ (x : List ℕ). line_from x place depth (drop (kept_len place cs) cs)) (append_assoc so (c ∷ []) (take (kept_len place cs) cs)))

pub kept_run : (place : Place) (so : List ℕ) (depth : ℕ) (text : List ℕ)
    → line_from so place depth text ≡ line_from (so ++ take (kept_len place text) text) place depth (drop (kept_len place text) text)
kept_run place so depth [] = ap (λ (x : List ℕ). (x, end_at place depth)) (sym (append-nil so))
kept_run place so depth (c ∷ cs) = run_step place so depth c cs (is_kept place c) refl (kept_run place (so ++ c ∷ []) depth cs)

no_octets : (xs : List ℕ) → length xs ≡ 0 → xs ≡ []
no_octets [] none = refl
no_octets (x ∷ xs) none = grind (arith)

-- a text that ends after such octets
pub ended_run : (place : Place) (so line : List ℕ) (depth : ℕ) (text run rest : List ℕ) → run ≡ take (kept_len place text) text
    → rest ≡ drop (kept_len place text) text → line ≡ so ++ run → length rest ≡ 0 → line_from so place depth text ≡ (line, end_at place depth)
ended_run place so line depth text run rest is-run is-rest is-line none =
    let left : drop (kept_len place text) text ≡ [] = sym is-rest ∙ no_octets rest none in
    let all : so ++ take (kept_len place text) text ≡ line = ap (λ (x : List ℕ). so ++ x) (sym is-run) ∙ sym is-line in
    kept_run place so depth text
    ∙ ap (λ (x : List ℕ). line_from (so ++ take (kept_len place text) text) place depth x) left
    ∙ ap (λ (x : List ℕ). (x, end_at place depth)) all

-- such octets of a line that is a part of the text
pub plain_run : (place : Place) (text so left others : List ℕ) → so ++ left ≡ text → line_from so place 0 left ≡ line_of text
    → others ≡ drop (kept_len place left) left → (more : List ℕ) × (more ++ others ≡ text) × (line_from more place 0 others ≡ line_of text)
plain_run place text so left others whole is e = (
  so ++ take (kept_len place left) left,
  rw e (append_assoc so (take (kept_len place left) left) (drop (kept_len place left) left)
      ∙ ap (λ (x : List ℕ). so ++ x) (take-append-drop (kept_len place left) left) ∙ whole),
  rw e (sym (kept_run place so 0 left) ∙ is),
)

-- and one more that is kept
pub plain_step : (place next : Place) (text so others rest : List ℕ) (c : ℕ) → so ++ others ≡ text → line_from so place 0 others ≡ line_of text
    → others ≡ c ∷ rest → on_octet place 0 c ≡ Kept next
    → ((so ++ c ∷ []) ++ rest ≡ text) × (line_from (so ++ c ∷ []) next 0 rest ≡ line_of text)
plain_step place next text so others rest c whole is e octet = (
  append_assoc so (c ∷ []) rest ∙ ap (λ (x : List ℕ). so ++ x) (sym e) ∙ whole,
  let here : line_from so place 0 others ≡ line_from (so ++ c ∷ []) next 0 rest = rw (e, octet) refl in sym here ∙ is,
)

-- the line is what is before the octet that ends it
pub plain_ended : (place : Place) (text so others rest front : List ℕ) (c : ℕ) (octet : Octet) (ending : Ending) → so ++ others ≡ text
    → line_from so place 0 others ≡ line_of text → others ≡ c ∷ rest → on_octet place 0 c ≡ octet
    → (added_octet octet c (λ o next. line_from (so ++ o ∷ []) next 0 rest) (λ next within. line_from (so ++ 32 ∷ []) next within rest)
    (λ why. (so, why)) ≡ (so, ending))
    → front ≡ take (length text - length others) text → line_of text ≡ (front, ending)
plain_ended place text so others rest front c octet ending whole is e on ends at =
    let here : line_from so place 0 others ≡ (so, ending) = rw (e, on) ends in
    let size : length so ≡ length text - length others = omega (arith, ap length whole, length-append so others) in
    let first : front ≡ so = at ∙ ap (take (length text - length others)) (sym whole) ∙ take_at so others (length text - length others) size in
    sym is ∙ here ∙ ap (λ (x : List ℕ). (x, ending)) (sym first)

-- or all of the text
pub plain_whole : (place : Place) (text so others : List ℕ) (ending : Ending) → so ++ others ≡ text → line_from so place 0 others ≡ line_of text
    → others ≡ [] → ending ≡ end_at place 0 → line_of text ≡ (text, ending)
plain_whole place text so others ending whole is none end =
    let here : line_from so place 0 others ≡ (so, end_at place 0) = rw none refl in
    let all : so ≡ text = sym (append-nil so) ∙ ap (λ (x : List ℕ). so ++ x) (sym none) ∙ whole in
    sym is ∙ here ∙ ap (λ (x : List ℕ). (x, end_at place 0)) all ∙ ap (λ (x : Ending). (text, x)) (sym end)
