use Rattle.std.proofs.Common.{rules, ◌++◌, refl}
use Rattle.std.proofs.lemmas.Grind.{put_two}
use Rattle.std.proofs.lemmas.List.{nil_from_length}
use Rattle.dnw_zone_values.proofs.PairsText.{one_pair, last_pair}
use Rattle.dnw_zone_values.proofs.pairs.PairsDisplay.fmt.Goals as goal

pub loop-next-preserved : goal.loop-next-preserved
loop-next-preserved g c = λ plain.
    let (done, wrote, whole) = c.loop-next.invariant plain in
    let more = c.write_ascii.ensures wrote.plain (search rules) in (
      done ++ _,
      put_two g.W.Write.write_str_gives _ _ _ _ _ _ wrote more refl,
      one_pair done c.loop-next.left.now c.in-Some-split_first.rest.now _ c.loop-next.octet c.in-Some-split_first.next.now c.lower_digit.result c.lower_digit-in-Some-split_first.result c.in-Some-split_first.ensures.cases.0 c.lower_digit.ensures.is c.lower_digit-in-Some-split_first.ensures.is whole,
    )

pub returns-clause-writes : goal.returns-clause-writes
returns-clause-writes g c = λ plain ok.
    let (done, wrote, whole) = c.loop-next.invariant plain in
    let more = c.write_ascii-2.ensures wrote.plain ok in
    put_two g.W.Write.write_str_gives _ _ _ _ _ _ wrote more (last_pair done c.loop-next.left.now _ c.loop-next.octet c.lower_digit-2.result c.lower_digit-3.result (nil_from_length _ c.in_default-split_first.ensures.cases) c.lower_digit-2.ensures.is c.lower_digit-3.ensures.is whole)
