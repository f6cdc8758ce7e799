use Rattle.std.proofs.Common.{◌≡◌, ◌∷◌, ◌++◌, [], List, ℕ, ap, sym, ◌∙◌, append_assoc, arith, refl}
use Rattle.std.specs.Prelude.{flat_map, string_bytes}
use Rattle.std.proofs.lemmas.List.{take-append-drop}
use Rattle.dnw_base.specs.Names.{label_wire}
use Rattle.dnw_zone_values.specs.Strings.{string_text}
use Rattle.dnw_zone_values.specs.Inside.Steps.{IsSpaced}
use Rattle.dnw_zone_data.specs.Printing.{strings_text}
use Rattle.dnw_zone_data.proofs.Strings.{cut_short, last, taken}
use Rattle.dnw_zone_data.proofs.printing.push_strings.Goals as goal

spaced : (strings : List (List ℕ)) → IsSpaced (strings_text strings)
spaced [] = tt
spaced (string ∷ strings) = refl

pub returns-in_default-split_at_checked : goal.returns-in_default-split_at_checked
returns-in_default-split_at_checked c =
    let few = c.in_default-split_at_checked.ensures.cases in
    let whole = c.loop-len.invariant.1 ∙ ap (λ (left : List ℕ). flat_map label_wire c.loop-len.invariant.0 ++ left) c.in-Some.ensures.cases.0 in
    let strings = c.loop-len.invariant.0 in (
      λ text own. cut_short strings own.0 c.args.octets.now c.in-Some.rest.now c.in-Some.len.now whole (omega (arith, few, c.from.ensures)) own.1,
      (strings_text strings, spaced strings, c.loop-len.invariant.2),
    )

pub loop-len-preserved : goal.loop-len-preserved
loop-len-preserved c =
    let strings = c.loop-len.invariant.0 in
    let string : List ℕ = c.in-Some-split_at_checked.string.now in
    let parts = c.in-Some-split_at_checked.ensures.cases in
    let whole = sym (take-append-drop c.from.result c.in-Some.rest.now) ∙ rw (parts.1, parts.2) refl in
    let old : List ℕ = string_bytes c.args.out.now in
    let spaced : List ℕ → List ℕ = λ s. 32 ∷ string_text s in
    let new : string_bytes c.loop-len.out ++ spaced string ≡ old ++ strings_text (strings ++ string ∷ []) =
    ap (λ (xs : List ℕ). xs ++ spaced string) c.loop-len.invariant.2 ∙ append_assoc old (strings_text strings) (spaced string)
    ∙ ap (λ (xs : List ℕ). old ++ xs) (sym (last spaced strings string)) in (
      strings ++ string ∷ [],
      taken strings c.args.octets.now c.loop-len.left.now c.in-Some.rest.now string c.in-Some-split_at_checked.after.now c.in-Some.len.now c.loop-len.invariant.1 c.in-Some.ensures.cases.0 whole (parts.3 ∙ c.from.ensures),
      c.in_ok-write.ensures.bytes ∙ new,
    )
