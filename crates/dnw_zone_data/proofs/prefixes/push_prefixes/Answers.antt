use Rattle.std.proofs.Common.{◌≡◌, ◌++◌, [], ◌∷◌, List, ℕ, length, refl, sym, ap, ◌∙◌, append_assoc, append-nil, arith}
use Rattle.std.specs.Prelude.{string_bytes}
use Rattle.std.proofs.lemmas.List.{take-append-drop}
use Rattle.dnw_zone_data.specs.PrefixLists.{prefixes_within}
use Rattle.dnw_zone_data.proofs.TypeSteps.{after_nil}
use Rattle.dnw_zone_data.proofs.PrefixSteps.{prefix_more, prefix_short, prefix_none, spaced_more, no_prefixes, all_prefixes}
use Rattle.dnw_zone_data.proofs.Empty.{is_empty, not_empty}
use Rattle.dnw_zone_data.proofs.prefixes.push_prefixes.Goals as goal

pub prefixes-init : goal.prefixes-init
prefixes-init c =
    let all : List ℕ = c.args.octets.now in
    (length all, [], omega arith, after_nil (prefixes_within (length all) all), tt, sym (append-nil (string_bytes c.args.out.now)))

pub returns-in_default : goal.returns-in_default
returns-in_default c =
    let (n, found, few, so_far, spaced, text) = c.prefixes.invariant in
    let left : List ℕ = c.prefixes.left.now in
    let some = not_empty left _ c.is_empty.ensures c.prefixes-test.true in
    no_prefixes c.args.octets.now left found found (string_bytes c.args.out.now) (string_bytes c.prefixes.out) n so_far
    (prefix_short n left some (omega (arith, c.in_default.ensures.cases, c.first_prefix_size.ensures))) spaced text

pub returns-then-not-branch : goal.returns-then-not-branch
returns-then-not-branch c =
    let (n, found, few, so_far, spaced, text) = c.prefixes.invariant in
    let left : List ℕ = c.prefixes.left.now in
    let own : List ℕ = c.in-Some.own.now in
    let others : List ℕ = c.in-Some.after.now in
    let some = not_empty left _ c.is_empty.ensures c.prefixes-test.true in
    let parts = c.in-Some.ensures.cases in
    let whole : left ≡ own ++ others = sym (take-append-drop c.first_prefix_size.result left) ∙ rw (parts.1, parts.2) refl in
    let none = rw c.if-not-branch.true at c.in_ok-write_prefix.ensures in
    no_prefixes c.args.octets.now left found (found ++ 32 ∷ []) (string_bytes c.args.out.now) (string_bytes c.write_prefix.new.out) n so_far
    (prefix_none n left own others some whole (parts.3 ∙ c.first_prefix_size.ensures) none.0) (spaced_more found [] spaced)
    (none.1 ∙ c.in_ok-push_str.ensures.bytes ∙ ap (λ (xs : List ℕ). xs ++ 32 ∷ []) text ∙ append_assoc (string_bytes c.args.out.now) found (32 ∷ []))

pub prefixes-preserved : goal.prefixes-preserved
prefixes-preserved c =
    let (n, found, few, so_far, spaced, text) = c.prefixes.invariant in
    let left : List ℕ = c.prefixes.left.now in
    let own : List ℕ = c.in-Some.own.now in
    let others : List ℕ = c.in-Some.after.now in
    let some = not_empty left _ c.is_empty.ensures c.prefixes-test.true in
    let parts = c.in-Some.ensures.cases in
    let whole : left ≡ own ++ others = sym (take-append-drop c.first_prefix_size.result left) ∙ rw (parts.1, parts.2) refl in
    let (shown, is, bytes) = rw c.if-not-branch.false at c.in_ok-write_prefix.ensures in
    let (m, shorter, more) = prefix_more c.args.octets.now left own others found shown n so_far few some whole (parts.3 ∙ c.first_prefix_size.ensures) is in
    let old : List ℕ = string_bytes c.args.out.now in (
      m,
      found ++ 32 ∷ shown,
      shorter,
      more,
      spaced_more found shown spaced,
      bytes ∙ ap (λ (xs : List ℕ). xs ++ shown) (c.in_ok-push_str.ensures.bytes ∙ ap (λ (xs : List ℕ). xs ++ 32 ∷ []) text ∙ append_assoc old found (32 ∷ []))
          ∙ append_assoc old (found ++ 32 ∷ []) shown ∙ ap (λ (xs : List ℕ). old ++ xs) (append_assoc found (32 ∷ []) shown),
    )

pub returns : goal.returns
returns c =
    let (n, found, few, so_far, spaced, text) = c.prefixes.invariant in
    all_prefixes c.args.octets.now c.prefixes.left.now found (string_bytes c.args.out.now) (string_bytes c.prefixes.out) n so_far
    (is_empty c.prefixes.left.now _ c.is_empty.ensures c.prefixes-test.false) text
