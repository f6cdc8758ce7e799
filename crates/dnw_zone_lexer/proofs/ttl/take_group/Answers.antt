use Rattle.std.proofs.Common.{◌+◌, Some, drop, get_or, sym, ap, subst, ◌∙◌}
use Rattle.std.proofs.lemmas.List.{drop_more}
use Rattle.dnw_zone_lexer.specs.Inside.Finds.{seconds_after, rest_from, BeginsNoDigit}
use Rattle.dnw_zone_lexer.proofs.Sums.{after_unit}
use Rattle.dnw_zone_lexer.proofs.ttl.take_group.Goals as goal

pub returns-clause-goes_on : goal.returns-clause-goes_on
returns-clause-goes_on c = λ total.
    let text = c.args.text.now in
    let n = c.in_ok-number.number in
    let at = c.in-Some.unit in
    let within = rw c.in-Some.is at c.in_ok-number.ensures.unit in
    let more = ap (rest_from text) c.in-Some.is ∙ drop_more text at 0 within.1 in
    let no_digit = subst BeginsNoDigit more c.in_ok-number.ensures.ends in
    c.in_ok-number.ensures.goes_on total ∙ ap (seconds_after total (Some n)) more
    ∙ after_unit total n (get_or text at 0) c.in_ok-unit_seconds.field-0 (drop (at + 1) text) no_digit (sym c.in_ok-unit_seconds.ensures)
