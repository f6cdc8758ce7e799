use Rattle.std.proofs.Common.{rules, ◌++◌, refl}
use Rattle.std.proofs.lemmas.Grind.{put_two}
use Rattle.dnw_zone_values.proofs.Groups.{five_more}
use Rattle.dnw_zone_values.proofs.base32.Base32HexDisplay.fmt.Goals as goal

pub loop-left-preserved : goal.loop-left-preserved
loop-left-preserved g c = λ plain.
    let (done, wrote, whole) = c.loop-left.invariant plain in
    let more = c.write_five.ensures wrote.plain (search rules) in (
      done ++ _,
      put_two g.W.Write.write_str_gives _ _ _ _ _ _ wrote more refl,
      five_more done c.loop-left.left.now _ _ _ c.in-len5-up.len_at_least refl whole refl,
    )

pub returns-clause-writes : goal.returns-clause-writes
returns-clause-writes g c = λ plain ok.
    let (done, wrote, whole) = c.loop-left.invariant plain in
    let more = c.write_last.ensures wrote.plain ok in
    put_two g.W.Write.write_str_gives _ _ _ _ _ _ wrote more whole
