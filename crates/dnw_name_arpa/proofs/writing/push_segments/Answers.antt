use Rattle.std.proofs.Common.{ℕ, List, [], ◌∷◌, ◌++◌, sym, ap, ◌∙◌, append_assoc, arith}
use Rattle.dnw_name_arpa.proofs.Segments.{labels_of, last_segment}
use Rattle.dnw_name_arpa.proofs.writing.push_segments.Goals as goal

pub segments-preserved : goal.segments-preserved
segments-preserved c = record {
  labels =
      ap (λ (ls : List (List ℕ)). ls ++ labels_of c.in-Some.front.now) c.push_segment.ensures.labels
      ∙ append_assoc c.segments.form (labels_of (c.in-Some.last.now ∷ [])) (labels_of c.in-Some.front.now)
      ∙ ap (λ (ls : List (List ℕ)). c.segments.form ++ ls) (sym (last_segment c.in-Some.front.now c.in-Some.last.now))
      ∙ ap (λ (xs : List ℕ). c.segments.form ++ labels_of xs) (sym c.in-Some.ensures.cases.0) ∙ c.segments.invariant.labels;
  size = omega (arith, c.push_segment.ensures.size, c.in-Some.ensures.cases.1, c.segments.invariant.size);
}
