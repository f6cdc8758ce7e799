-- What is after the mark is the number and the octets.
use Rattle.std.proofs.Common.{◌≡◌, ℕ, List, inl, sym, ap, ◌∙◌, subst}
use Rattle.std.proofs.lemmas.Result.{MatchResult-weaker}
use Rattle.dnw_base.specs.DnsClasses.{class_code}
use Rattle.dnw_base.specs.RecordTypes.{type_code}
use Rattle.dnw_data.specs.Table.{fields_of}
use Rattle.dnw_zone_data.specs.Words.{after_spaces, after_word, word}
use Rattle.dnw_zone_data.specs.DataTexts.{FailsGeneric}
use Rattle.dnw_zone_data.specs.Generic.{generic_mark, IsSized}
use Rattle.dnw_zone_data.proofs.data_text.append_in_line.Goals as goal

pub returns-in-Some : goal.returns-in-Some
returns-in-Some c =
    let text = c.args.text.now in
    let start = c.after_spaces-start.ensures.rest in
    let marked : word (after_spaces text) ≡ generic_mark = sym (ap word start) ∙ c.in-Some.ensures.is.0 in
    let left : c.in-Some.rest.now ≡ after_word (after_spaces text) = c.in-Some.ensures.is.1 ∙ ap after_word start in
    MatchResult-weaker c.append_generic.result c.append_generic.ensures
    (λ _ has. (has.0, inl ((marked, subst (λ (xs : List ℕ). IsSized xs has.0) left has.1), has.2), has.3))
    (λ e fails. inl (marked, subst (λ (xs : List ℕ). FailsGeneric (fields_of (class_code c.args.class) (type_code c.args.record_type)) c.args.len xs e) left fails))
