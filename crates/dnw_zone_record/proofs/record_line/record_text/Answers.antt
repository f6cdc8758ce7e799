use Rattle.std.proofs.Common.{List, ℕ, ap, ◌∙◌}
use Rattle.std.specs.Prelude.{string_bytes}
use Rattle.dnw_zone_record.specs.RecordLines.{record_line}
use Rattle.dnw_zone_record.proofs.record_line.record_text.Goals as goal

pub returns : goal.returns
returns c =
    let text : List ℕ = string_bytes c.in_ok-text.text in
    (text, c.in_ok-text.ensures, c.in_ok-line.ensures ∙ ap (record_line c.args.«record».now) c.as_str.ensures.value)
