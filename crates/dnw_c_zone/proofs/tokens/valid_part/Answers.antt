use Rattle.std.proofs.Common.{◌++◌, List, ℕ, take, drop, refl, sym, ap, subst, length, ◌≤◌, ◌∙◌}
use Rattle.std.specs.Str.{IsValidUpTo}
use Rattle.std.proofs.lemmas.List.{take-append-drop}
use Rattle.dnw_c_zone.proofs.TokenParts.{part_of, no_longer}
use Rattle.dnw_c_zone.proofs.tokens.valid_part.Goals as goal

pub returns-in-Ok-clause-begins : goal.returns-in-Ok-clause-begins
returns-in-Ok-clause-begins c =
    (drop c.args.size c.args.left.now, sym (take-append-drop c.args.size c.args.left.now) ∙ ap (λ (t : List ℕ). t ++ drop c.args.size c.args.left.now) (sym c.in-Ok.ensures.cases.0))

pub returns-in-Err-clause-begins : goal.returns-in-Err-clause-begins
returns-in-Err-clause-begins c = part_of c.args.left.now _ c.unwrap.result.now c.args.size c.valid_up_to.result refl (rw c.unwrap.ensures at c.from_utf8-in-Err.ensures.cases).0

pub returns-in-Err-clause-longest : goal.returns-in-Err-clause-longest
returns-in-Err-clause-longest c = λ front rest begins few utf8.
    let part = take c.args.size c.args.left.now in
    let valid = subst (IsValidUpTo part) (sym c.valid_up_to.ensures) c.in-Err.ensures.cases.1 in
    subst (λ (t : List ℕ). length front ≤ length t) (sym (rw c.unwrap.ensures at c.from_utf8-in-Err.ensures.cases).0)
    (no_longer c.args.left.now part front rest c.args.size c.valid_up_to.result c.requires refl begins few utf8 valid)
