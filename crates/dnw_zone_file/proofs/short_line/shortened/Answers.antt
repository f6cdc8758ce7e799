use Rattle.std.proofs.Common.{◌≡◌, List, ℕ, length, ap, ◌∙◌}
use Rattle.std.specs.Prelude.{string_bytes}
use Rattle.dnw_base.specs.Names.{NameValue}
use Rattle.dnw_name_text.specs.NameTexts.{text_of_name}
use Rattle.dnw_zone_file.specs.Inside.ShortTexts.{before_ending}
use Rattle.dnw_zone_file.proofs.ShortNames.{cut_name}
use Rattle.dnw_zone_file.proofs.short_line.shortened.Goals as goal

pub returns : goal.returns
returns c =
    let (front, is) = c.requires.ends in
    let whole = string_bytes c.in_ok-whole.whole in
    let ending = string_bytes c.in_ok-ending.ending in
    let text_is : c.in_ok-text.text.items ≡ before_ending whole (length ending) =
    c.in_ok-text.ensures.items ∙ c.before_ending.ensures ∙ ap (λ (w : List ℕ). before_ending w (length c.as_bytes-size.result.now)) c.as_bytes.ensures.value
    ∙ ap (λ (w : List ℕ). before_ending whole (length w)) c.as_bytes-size.ensures.value in
    let whole_is = c.in_ok-whole.ensures ∙ ap (λ (n : NameValue). text_of_name n) c.qualified.ensures in
    let ending_is = c.in_ok-ending.ensures ∙ ap (λ (n : NameValue). text_of_name n) c.qualified-2.ensures in
    let origin = c.args.origin.now.labels in
    (front, (c.requires.some, is), cut_name origin c.args.name.now.labels front whole ending c.in_ok-text.text.items c.requires.some is whole_is ending_is text_is)
