use Rattle.std.proofs.Common.{inl, inr}
use Rattle.dnw_zone_data.proofs.Rests.{not_both}
use Rattle.dnw_zone_data.proofs.string_lists.parse_texts.Goals as goal

pub returns-in-TooMany : goal.returns-in-TooMany
returns-in-TooMany c = λ value are. elim c.in-TooMany.is [
  | inl many ↦ let too = rw many at c.in_ok-append_strings.ensures in not_both c.args.text.now value are too
  | inr none ↦ let no = rw none at c.in_ok-append_strings.ensures in no.0 value are
]
