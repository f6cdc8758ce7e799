use Rattle.std.proofs.Common.{◌≡◌, refl, sym, ap, ◌∙◌}
use Rattle.std.proofs.lemmas.Bool.{true≢false}
use Rattle.dnw_base.specs.Names.{wire}
use Rattle.dnw_message_read.proofs.Names.{takes_name}
use Rattle.dnw_message_read.proofs.option.read_name.Goals as goal

pub returns-in-Err-clause-err : goal.returns-in-Err-clause-err
returns-in-Err-clause-err c = (λ labels are is. (c.in-Err.ensures.accepts _ labels 0 (takes_name c.reads_back.ensures _ _ labels c.new.ensures (are, is))).0, refl)

pub returns-then-not-is_same-clause-err : goal.returns-then-not-is_same-clause-err
returns-then-not-is_same-clause-err c = (
  λ labels are is.
      let named = (c.in-Ok.ensures.accepts _ labels 0 (takes_name c.reads_back.ensures _ _ labels c.new.ensures (are, is))).0 in
      let same : c.as_wire.result.now ≡ c.args.octets.now = c.as_wire.ensures.form ∙ (ap wire (c.wire_labels.ensures ∙ named) ∙ sym is) in
      true≢false (sym (c.is_same.ensures.1 same) ∙ c.if-not-is_same.true),
  refl,
)
