use Rattle.std.proofs.Common.{◌≡◌, ◌∷◌, ◌++◌, [], List, ℕ, ap, sym, ◌∙◌, append_assoc, arith, refl}
use Rattle.std.specs.Prelude.{flat_map, string_bytes}
use Rattle.dnw_base.specs.Names.{wire}
use Rattle.dnw_name_text.specs.NameTexts.{full_name_text}
use Rattle.dnw_zone_values.specs.Inside.Steps.{IsSpaced}
use Rattle.dnw_zone_data.specs.NameLists.{names_text}
use Rattle.dnw_zone_data.proofs.Empty.{not_empty}
use Rattle.dnw_zone_data.proofs.NameFronts.{all_and, no_names}
use Rattle.dnw_zone_data.proofs.Strings.{last, one_more}
use Rattle.dnw_zone_data.proofs.name_lists.push_names.Goals as goal

spaced : (listed : List (List (List ℕ))) → IsSpaced (names_text listed)
spaced [] = tt
spaced (labels ∷ listed) = refl

pub returns-in_default : goal.returns-in_default
returns-in_default c =
    let listed = c.names.invariant.0 in
    let left : List ℕ = c.names.left.now in (
      no_names listed c.args.octets.now left c.names.invariant.1 c.names.invariant.2 (not_empty left _ c.is_empty.ensures c.names-test.true) c.in_default.ensures,
      (names_text listed, spaced listed, c.names.invariant.3),
    )

pub names-preserved : goal.names-preserved
names-preserved c =
    let listed = c.names.invariant.0 in
    let labels = c.in-Some.name in
    let rest : List ℕ = c.in-Some.rest.now in
    let old : List ℕ = string_bytes c.args.out.now in
    let shown : List ℕ = full_name_text labels in
    let octets = c.names.invariant.2 ∙ ap (λ (xs : List ℕ). flat_map wire listed ++ xs) c.in-Some.ensures.1 ∙ sym (one_more wire listed labels rest) in
    let pushed : string_bytes c.push.new.self ≡ string_bytes c.names.out ++ 32 ∷ [] =
    c.in_ok-push.ensures.bytes ∙ ap (λ (xs : List ℕ). string_bytes c.names.out ++ xs) (c.in_ok-push.ensures.ascii (omega arith)) in
    let text = c.in_ok-write_name.ensures ∙ ap (λ (xs : List ℕ). xs ++ shown) (pushed ∙ ap (λ (xs : List ℕ). xs ++ 32 ∷ []) c.names.invariant.3)
    ∙ append_assoc (old ++ names_text listed) (32 ∷ []) shown ∙ append_assoc old (names_text listed) (32 ∷ shown)
    ∙ ap (λ (xs : List ℕ). old ++ xs) (sym (last (λ (ls : List (List ℕ)). 32 ∷ full_name_text ls) listed labels)) in
    (listed ++ labels ∷ [], all_and listed labels c.names.invariant.1 c.in-Some.ensures.0, octets, text)
