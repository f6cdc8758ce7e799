use Rattle.std.proofs.Common.{refl, sym, ◌∙◌}
use Rattle.dnw_message_read.proofs.Extension.{first_shorter, nothing_left, options_after, options_before}
use Rattle.dnw_message_writer.proofs.edns.are_options.Goals as goal

pub options-smaller : goal.options-smaller
options-smaller c = first_shorter _ _ _ c.in-Some.ensures

pub options-preserved : goal.options-preserved
options-preserved c =
    let (to, from) = c.options.invariant in
    (λ h. to (options_before _ _ _ c.in-Some.ensures h), λ h. options_after _ _ _ c.in-Some.ensures (from h))

pub returns : goal.returns
returns c = (λ _. c.options.invariant.0 (nothing_left c.options.rest.now (sym c.is_empty.ensures ∙ c.options-test.false)), λ _. refl)
