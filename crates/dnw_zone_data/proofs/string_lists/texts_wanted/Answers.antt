use Rattle.std.proofs.Common.{inl, inr, refl}
use Rattle.dnw_zone_data.proofs.Rests.{not_both}
use Rattle.dnw_zone_data.proofs.string_lists.texts_wanted.Goals as goal

pub returns : goal.returns
returns c = elim c.in-Strings.is [
  | inl all ↦ let found = rw all at c.in_ok-append_strings.ensures in inr (not_both c.args.text.now found.0 found.1, refl)
  | inr none ↦ let no = rw none at c.in_ok-append_strings.ensures in inr (no.1, refl)
]
