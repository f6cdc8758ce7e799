use Rattle.std.proofs.Common.{sym, ap, ◌∙◌}
use Rattle.std.specs.Option.{option_copied}
use Rattle.std.proofs.lemmas.Bool.{false≢true}
use Rattle.dnw_zone_data.proofs.NamesRead.{plain_or_none}
use Rattle.dnw_zone_data.proofs.PlainTexts.{begins_plain, ends_plain}
use Rattle.dnw_zone_data.proofs.name.put_plain.Goals as goal

pub returns-then-last-ne46 : goal.returns-then-last-ne46
returns-then-last-ne46 c labels are plain is =
    c.if-last-ne46.true (ends_plain c.args.text.now labels c.in_ok-last.last.now plain is (sym (ap option_copied c.in_ok-last.was) ∙ c.last.ensures.value))

pub returns-then-begins_with_quote : goal.returns-then-begins_with_quote
returns-then-begins_with_quote c labels are plain is =
    false≢true (sym (begins_plain c.args.text.now labels are plain is) ∙ sym c.begins_with_quote.ensures ∙ c.if-begins_with_quote.true)

pub returns : goal.returns
returns c =
    plain_or_none _ c.args.text.now c.put_plain_form.new.room c.put_plain_form.result (sym c.begins_with_quote.ensures ∙ c.if-begins_with_quote.false) c.put_plain_form.ensures.some c.put_plain_form.ensures.none
