use Rattle.std.proofs.Common.{rules}
use Rattle.dnw_zone_values.proofs.Tagged.{utf8}
use Rattle.dnw_zone_values.proofs.tag.tag_text.Goals as goal

pub returns-then-is_tag : goal.returns-then-is_tag
returns-then-is_tag c =
    let is = c.is_tag.ensures.yes c.if-is_tag.true in
    let text = utf8 c.args.tag.now is.2 in
    search (rules, is, text)
