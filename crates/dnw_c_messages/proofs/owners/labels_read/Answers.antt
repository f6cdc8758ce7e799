-- Octets that are a name are its wire form.
use Rattle.std.proofs.Common.{List, ℕ, length, subst, sym, ◌∙◌}
use Rattle.dnw_name_read.specs.Reading.{NameAt}
use Rattle.dnw_c_messages.proofs.Forms.{form_is_wire, form_labels}
use Rattle.dnw_c_messages.proofs.owners.labels_read.Goals as goal

pub new-requires : goal.new-requires
new-requires c =
    let form = c.args.form.now in
    let ls = c.in_ok-end.field-0-0 in
    let (k, name) = c.in_ok-end.ensures.ok in
    form_is_wire form ls k (subst (λ e. NameAt form 0 ls e k) c.if-end-form.false name)

pub returns-clause-ok : goal.returns-clause-ok
returns-clause-ok c =
    let form = c.args.form.now in
    let ls = c.in_ok-end.field-0-0 in
    let (k, name) = c.in_ok-end.ensures.ok in
    let whole = subst (λ e. NameAt form 0 ls e k) c.if-end-form.false name in
    (k, subst (λ (x : List (List ℕ)). NameAt form 0 x (length form) k) (sym (c.new.ensures ∙ form_labels form ls k whole)) whole)
