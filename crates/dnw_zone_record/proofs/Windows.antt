-- A whole line is the same whatever is after it.
use Rattle.std.proofs.Common.{◌≡◌, ℕ, Bool, true, false, List, [], ◌∷◌, ◌++◌, refl, ap, ◌∙◌, sym, arith}
use Rattle.std.specs.Prelude.{◌==◌, if◌then◌else◌}
use Rattle.dnw_zone_record.specs.declared.scan.Place.{Place}
use Rattle.dnw_zone_record.specs.declared.scan.Place.TheVariants.{Words, Escaped, Quoted, QuotedEscaped, Comment}
use Rattle.dnw_zone_record.specs.declared.scan.Octet.{Octet}
use Rattle.dnw_zone_record.specs.declared.scan.Octet.TheVariants.{Kept, Blank, End, Wrong as IsWrong}
use Rattle.dnw_zone_record.specs.declared.scan.Ending.{Ending}
use Rattle.dnw_zone_record.specs.declared.scan.Ending.TheVariants.{Text, Cut}
use Rattle.dnw_zone_record.specs.declared.word_error.WordRule.TheVariants.{UnclosedParenthesis}
use Rattle.dnw_zone_record.specs.Lines.{end_at, line_from, on_octet, added_octet}
use Rattle.dnw_zone_record.specs.LineLaws.{WindowsAgree, is_settled_ending}

cut_end : (closed : Bool) → is_settled_ending (if closed then Text else Cut UnclosedParenthesis) ≡ false
cut_end true = refl
cut_end false = refl

end_is_cut : (place : Place) (depth : ℕ) → is_settled_ending (end_at place depth) ≡ false
end_is_cut Words depth = cut_end (depth == 0)
end_is_cut Comment depth = cut_end (depth == 0)
end_is_cut Escaped depth = refl
end_is_cut Quoted depth = refl
end_is_cut QuotedEscaped depth = refl

-- What is left after an octet makes the same line with more after it, if it does so whatever is before.
whole_octet : (octet : Octet) (c : ℕ) (depth : ℕ) (so cs more line : List ℕ) (ending : Ending)
    → ((before : List ℕ) (next : Place) (within : ℕ) → line_from before next within cs ≡ (line, ending) → line_from before next within (cs ++ more) ≡ (line, ending))
    → added_octet octet c (λ o next. line_from (so ++ o ∷ []) next depth cs) (λ next within. line_from (so ++ 32 ∷ []) next within cs) (λ end. (so, end)) ≡ (line, ending)
    → added_octet octet c (λ o next. line_from (so ++ o ∷ []) next depth (cs ++ more)) (λ next within. line_from (so ++ 32 ∷ []) next within (cs ++ more)) (λ end. (so, end))
    ≡ (line, ending)
whole_octet (Kept next) c depth so cs more line ending later is = later (so ++ c ∷ []) next depth is
whole_octet (Blank next within) c depth so cs more line ending later is = later (so ++ 32 ∷ []) next within is
whole_octet End c depth so cs more line ending later is = is
whole_octet (IsWrong rule) c depth so cs more line ending later is = is

whole_from : (text more so line : List ℕ) (place : Place) (depth : ℕ) (ending : Ending) → is_settled_ending ending ≡ true
    → line_from so place depth text ≡ (line, ending) → line_from so place depth (text ++ more) ≡ (line, ending)
whole_from [] more so line place depth ending whole is =
    let end : end_at place depth ≡ ending = ap (λ (found : List ℕ × Ending). found.1) is in
    let cut : is_settled_ending ending ≡ false = ap is_settled_ending (sym end) ∙ end_is_cut place depth in
    grind (arith, cut, whole)
whole_from (c ∷ cs) more so line place depth ending whole is =
    whole_octet (on_octet place depth c) c depth so cs more line ending
    (λ before next within found. whole_from cs more before line next within ending whole found) is

pub windows : WindowsAgree
windows text more line ending is whole = whole_from text more [] line Words 0 ending whole is
