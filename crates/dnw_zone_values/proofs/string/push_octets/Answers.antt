use Rattle.std.proofs.Common.{◌≡◌, List, ℕ, [], ◌∷◌, ◌++◌, refl, sym, ap, ◌∙◌, arith, append_assoc, length-append, subst}
use Rattle.std.proofs.lemmas.List.{nil_from_length}
use Rattle.dnw_zone_values.specs.Strings.{Plain, at_end, octets_from}
use Rattle.dnw_zone_values.specs.Inside.Takes.{after, octets_at, IsNoText}
use Rattle.dnw_zone_values.proofs.StringText.{after_more, closed_text, ended_text, no_octet, step, too_long, too_many, with_run}
use Rattle.dnw_zone_values.proofs.string.push_octets.Goals as goal

pub returns-then-run-max-clause-ok : goal.returns-then-run-max-clause-ok
returns-then-run-max-clause-ok c =
    let (found, so_far, count, few, items) = c.runs.invariant in
    let run : List ℕ = c.split_at.result.0.now in
    let so = with_run c.args.quoted _ _ c.split_at.result.1.now found run _ so_far c.string_run_len.ensures.is c.split_at.ensures.front c.split_at.ensures.back in
    let many = too_long (found ++ run) (octets_from c.args.quoted Plain c.split_at.result.1.now) c.args.max (omega (arith, length-append found run)) in
    (subst (IsNoText c.args.max) (sym so) many, (found, items))

pub returns-in_default-clause-ok : goal.returns-in_default-clause-ok
returns-in_default-clause-ok c =
    let (found, so_far, count, few, items) = c.runs.invariant in
    let run : List ℕ = c.split_at.result.0.now in
    let others : List ℕ = c.split_at.result.1.now in
    let so = with_run c.args.quoted _ _ others found run _ so_far c.string_run_len.ensures.is c.split_at.ensures.front c.split_at.ensures.back in
    let none : others ≡ [] = nil_from_length others c.in_default.ensures.cases in
    ended_text c.args.quoted _ (found ++ run) c.args.octets.now.items _ c.args.max (so ∙ ap (λ (x : List ℕ). after (found ++ run) (octets_from c.args.quoted Plain x)) none)
    (omega (arith, length-append found run)) (c.in_ok-extend_from_slice.ensures.items ∙ ap (λ (x : List ℕ). x ++ run) items ∙ append_assoc c.args.octets.now.items found run)

pub returns-then-is_end-clause-ok : goal.returns-then-is_end-clause-ok
returns-then-is_end-clause-ok c =
    let q = c.args.quoted in
    let (found, so_far, count, few, items) = c.runs.invariant in
    let run : List ℕ = c.split_at.result.0.now in
    let others : List ℕ = c.split_at.result.1.now in
    let so = with_run q _ _ others found run _ so_far c.string_run_len.ensures.is c.split_at.ensures.front c.split_at.ensures.back in
    let ends = sym c.is_end.ensures ∙ c.if-is_end.true in
    let here : octets_from q Plain others ≡ at_end c.in-Some.rest.now = rw (c.in-Some.ensures.cases.0, ends) refl in
    closed_text _ c.in-Some.rest.now (found ++ run) c.args.octets.now.items _ c.args.max _ (so ∙ ap (after (found ++ run)) here) c.is_empty.ensures
    (omega (arith, length-append found run)) (c.in_ok-extend_from_slice.ensures.items ∙ ap (λ (x : List ℕ). x ++ run) items ∙ append_assoc c.args.octets.now.items found run)

pub returns-in_default-take_octet-clause-ok : goal.returns-in_default-take_octet-clause-ok
returns-in_default-take_octet-clause-ok c =
    let q = c.args.quoted in
    let (found, so_far, count, few, items) = c.runs.invariant in
    let run : List ℕ = c.split_at.result.0.now in
    let others : List ℕ = c.split_at.result.1.now in
    let so = with_run q _ _ others found run _ so_far c.string_run_len.ensures.is c.split_at.ensures.front c.split_at.ensures.back in
    let ends = sym c.is_end.ensures ∙ c.if-is_end.false in
    let here : octets_from q Plain others ≡ octets_at q c.in-Some.first.now c.in-Some.rest.now = rw (c.in-Some.ensures.cases.0, ends) refl in
    let none = rw c.in_default-take_octet.is at c.take_octet.ensures.none in
    no_octet _ (found ++ run) c.args.octets.now.items _ c.args.max (so ∙ ap (after (found ++ run)) (here ∙ none q))
    (c.in_ok-extend_from_slice.ensures.items ∙ ap (λ (x : List ℕ). x ++ run) items ∙ append_assoc c.args.octets.now.items found run)

pub returns-then-count-max-clause-ok : goal.returns-then-count-max-clause-ok
returns-then-count-max-clause-ok c =
    let q = c.args.quoted in
    let (found, so_far, count, few, items) = c.runs.invariant in
    let run : List ℕ = c.split_at.result.0.now in
    let others : List ℕ = c.split_at.result.1.now in
    let so = with_run q _ _ others found run _ so_far c.string_run_len.ensures.is c.split_at.ensures.front c.split_at.ensures.back in
    let next = step q _ others _ c.in-Some-take_octet.rest.now (found ++ run) _ _ so c.in-Some.ensures.cases.0 (sym c.is_end.ensures ∙ c.if-is_end.false) (c.in-Some-take_octet.ensures.some q) in
    let many = too_many (found ++ run) c.in-Some-take_octet.octet (octets_from q Plain c.in-Some-take_octet.rest.now) c.args.max (omega (arith, length-append found run)) in
    (subst (IsNoText c.args.max) (sym next) many, (found ++ run, c.in_ok-extend_from_slice.ensures.items ∙ ap (λ (x : List ℕ). x ++ run) items ∙ append_assoc c.args.octets.now.items found run))

pub runs-preserved : goal.runs-preserved
runs-preserved c =
    let q = c.args.quoted in
    let (found, so_far, count, few, items) = c.runs.invariant in
    let run : List ℕ = c.split_at.result.0.now in
    let others : List ℕ = c.split_at.result.1.now in
    let so = with_run q _ _ others found run _ so_far c.string_run_len.ensures.is c.split_at.ensures.front c.split_at.ensures.back in
    let o : ℕ = c.in-Some-take_octet.octet in
    let next = step q _ others _ c.in-Some-take_octet.rest.now (found ++ run) _ o so c.in-Some.ensures.cases.0 (sym c.is_end.ensures ∙ c.if-is_end.false) (c.in-Some-take_octet.ensures.some q) in
    let old : List ℕ = c.args.octets.now.items in
    let so_items = c.in_ok-extend_from_slice.ensures.items ∙ ap (λ (x : List ℕ). x ++ run) items ∙ append_assoc old found run in (
      (found ++ run) ++ o ∷ [],
      next ∙ after_more (found ++ run) o (octets_from q Plain c.in-Some-take_octet.rest.now),
      omega (arith, length-append (found ++ run) (o ∷ []), length-append found run, count),
      omega arith,
      c.in_ok-push.ensures.items ∙ ap (λ (xs : List ℕ). xs ++ o ∷ []) so_items ∙ append_assoc old (found ++ run) (o ∷ []),
    )
