use Rattle.std.proofs.Common.{rules}
use Rattle.dnw_c_zone.proofs.TokenTexts.{text_bytes}
use Rattle.dnw_c_zone.proofs.tokens.put_token.Goals as goal

pub returns-in_err-len-in-CharData : goal.returns-in_err-len-in-CharData
returns-in_err-len-in-CharData c =
    let bytes = text_bytes c.in-CharData.text in
    search (rules, bytes)

pub returns-in_ok-len-in-CharData : goal.returns-in_ok-len-in-CharData
returns-in_ok-len-in-CharData c =
    let bytes = text_bytes c.in-CharData.text in
    search (rules, bytes)
