-- A form is read as its labels.
use Rattle.std.proofs.Common.{◌≡◌, List, ℕ, length, reverse, sym, ap, ◌∙◌, subst}
use Rattle.std.proofs.lemmas.List.{reverse-reverse}
use Rattle.dnw_name_read.specs.Reading.{NameAt}
use Rattle.dnw_name_form.specs.Inside.WireBytes.{labels_of}
use Rattle.dnw_c_names.proofs.Forms.{form_name}
use Rattle.dnw_c_names.proofs.wire_form.labels_from_last.Goals as goal

pub with_lengths-requires : goal.with_lengths-requires
with_lengths-requires c = rw c.new.ensures c.in-Some.ensures.known

pub returns-in-Some-clause-ok : goal.returns-in-Some-clause-ok
returns-in-Some-clause-ok c =
    let form = c.args.form.now in
    let same : reverse c.with_lengths.result ≡ labels_of form = ap reverse c.with_lengths.ensures ∙ reverse-reverse c.new.result ∙ c.new.ensures in
    (0, subst (λ (ls : List (List ℕ)). NameAt form 0 ls (length form) 0) (sym same) (form_name form c.in-Some.ensures.wire))
