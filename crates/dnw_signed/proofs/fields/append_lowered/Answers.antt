-- Lower case changes no length octet.
use Rattle.std.proofs.Common.{List, ℕ, length, sym, ap, ◌++◌, ◌∙◌}
use Rattle.dnw_name_form.proofs.LowerWires.{lower_wire}
use Rattle.dnw_signed.proofs.Lowering.{lowered_end}
use Rattle.dnw_signed.proofs.fields.append_lowered.Goals as goal

pub returns-clause-ok : goal.returns-clause-ok
returns-clause-ok c =
    lowered_end c.args.out.now.items _ _ _ _ _ _ _
    (c.as_mut_slice.ensures.value ∙ (c.in_ok-extend_from_slice.ensures.items ∙ ap (λ (x : List ℕ). c.args.out.now.items ++ x) c.as_wire.ensures.form))
    (c.len-start.ensures ∙ c.args.out.now.ok.0) (c.extend_from_slice.new.self.ok.0 ∙ ap length (sym c.as_mut_slice.ensures.value)) c.make_ascii_lowercase.ensures.after
    (lower_wire c.args.labels c.as_wire.ensures.labels.each)

pub returns-clause-grows : goal.returns-clause-grows
returns-clause-grows c = (
  _,
  lowered_end c.args.out.now.items _ _ _ _ _ _ _
      (c.as_mut_slice.ensures.value ∙ (c.in_ok-extend_from_slice.ensures.items ∙ ap (λ (x : List ℕ). c.args.out.now.items ++ x) c.as_wire.ensures.form))
      (c.len-start.ensures ∙ c.args.out.now.ok.0) (c.extend_from_slice.new.self.ok.0 ∙ ap length (sym c.as_mut_slice.ensures.value)) c.make_ascii_lowercase.ensures.after
      (lower_wire c.args.labels c.as_wire.ensures.labels.each),
)
