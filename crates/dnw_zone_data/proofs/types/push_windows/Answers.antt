use Rattle.std.proofs.Common.{◌≡◌, ◌*◌, ◌++◌, [], List, ℕ, length, refl, sym, ap, ◌∙◌, append_assoc, append-nil, arith}
use Rattle.std.specs.Prelude.{string_bytes}
use Rattle.std.proofs.lemmas.List.{take-append-drop, nil_from_length}
use Rattle.dnw_data.specs.TypeSets.{octets_codes, window_size}
use Rattle.dnw_zone_data.specs.TypeLists.{codes_within, codes_text}
use Rattle.dnw_zone_data.proofs.TypeSteps.{after_nil, codes_append, window_more, no_number, no_octets, no_window, no_types}
use Rattle.dnw_zone_data.proofs.types.push_windows.Goals as goal

pub loop-number-init : goal.loop-number-init
loop-number-init c =
    let all : List ℕ = c.args.octets.now in
    (length all, [], omega arith, after_nil (codes_within (length all) all), sym (append-nil (string_bytes c.args.out.now)))

pub returns-in_default-split_first : goal.returns-in_default-split_first
returns-in_default-split_first c =
    let (n, codes, few, so_far, text) = c.loop-number.invariant in
    no_types c.args.octets.now c.loop-number.left.now codes n so_far
    (no_number n c.in-Some.number.now c.loop-number.left.now c.in-Some.rest.now few c.in-Some.ensures.cases.0 (nil_from_length c.in-Some.rest.now c.in_default-split_first.ensures.cases)) (string_bytes c.args.out.now) (string_bytes c.loop-number.out) text

pub returns-in_default-split_at_checked : goal.returns-in_default-split_at_checked
returns-in_default-split_at_checked c =
    let (n, codes, few, so_far, text) = c.loop-number.invariant in
    let short = c.in_default-split_at_checked.ensures.cases in
    no_types c.args.octets.now c.loop-number.left.now codes n so_far
    (no_octets n c.in-Some.number.now c.in-Some-split_first.len.now c.loop-number.left.now c.in-Some.rest.now c.in-Some-split_first.rest.now few c.in-Some.ensures.cases.0
    c.in-Some-split_first.ensures.cases.0 (omega (arith, short, c.from.ensures))) (string_bytes c.args.out.now) (string_bytes c.loop-number.out) text

pub returns-then-not-is_window : goal.returns-then-not-is_window
returns-then-not-is_window c =
    let (n, codes, few, so_far, text) = c.loop-number.invariant in
    let own : List ℕ = c.in-Some-split_at_checked.own.now in
    let after : List ℕ = c.in-Some-split_at_checked.after.now in
    let more : List ℕ = c.in-Some-split_first.rest.now in
    let parts = c.in-Some-split_at_checked.ensures.cases in
    let whole : more ≡ own ++ after = sym (take-append-drop c.from.result more) ∙ rw (parts.1, parts.2) refl in
    no_types c.args.octets.now c.loop-number.left.now codes n so_far
    (no_window n c.in-Some.number.now c.in-Some-split_first.len.now c.loop-number.left.now c.in-Some.rest.now more own after few c.in-Some.ensures.cases.0
    c.in-Some-split_first.ensures.cases.0 whole (parts.3 ∙ c.from.ensures) (sym c.is_window.ensures ∙ c.if-not-is_window.true)) (string_bytes c.args.out.now) (string_bytes c.loop-number.out) text

pub loop-number-preserved : goal.loop-number-preserved
loop-number-preserved c =
    let (n, codes, few, so_far, text) = c.loop-number.invariant in
    let own : List ℕ = c.in-Some-split_at_checked.own.now in
    let after : List ℕ = c.in-Some-split_at_checked.after.now in
    let more : List ℕ = c.in-Some-split_first.rest.now in
    let number : ℕ = c.in-Some.number.now in
    let parts = c.in-Some-split_at_checked.ensures.cases in
    let whole : more ≡ own ++ after = sym (take-append-drop c.from.result more) ∙ rw (parts.1, parts.2) refl in
    let (m, shorter, found) =
    window_more c.args.octets.now c.loop-number.left.now c.in-Some.rest.now more own after codes n number c.in-Some-split_first.len.now so_far few c.in-Some.ensures.cases.0
    c.in-Some-split_first.ensures.cases.0 whole (parts.3 ∙ c.from.ensures) (sym c.is_window.ensures ∙ c.if-not-is_window.false) in
    let old : List ℕ = string_bytes c.args.out.now in
    let mine = octets_codes (window_size * number) own in
    let same : octets_codes (256 * c.from-in-Some.result) own ≡ mine = ap (λ (k : ℕ). octets_codes (256 * k) own) c.from-in-Some.ensures in (
      m,
      codes ++ mine,
      shorter,
      found,
      c.in_ok-write_octets.ensures ∙ ap (λ (xs : List ℕ). xs ++ codes_text (octets_codes (256 * c.from-in-Some.result) own)) text
          ∙ append_assoc old (codes_text codes) (codes_text (octets_codes (256 * c.from-in-Some.result) own))
          ∙ ap (λ (xs : List ℕ). old ++ (codes_text codes ++ codes_text xs)) same ∙ ap (λ (xs : List ℕ). old ++ xs) (sym (codes_append codes mine)),
    )
