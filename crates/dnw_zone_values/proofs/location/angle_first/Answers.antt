use Rattle.std.proofs.Common.{ℕ, List, [], Bor}
use Rattle.dnw_zone_values.proofs.LocationWords.{no_two, no_three, no_four}
use Rattle.dnw_zone_values.proofs.location.angle_first.Goals as goal

abbrev z : Bor (List ℕ)
z = record { ref_ptr = (0, 0); now = [] }

pub returns-in_default-angle_of : goal.returns-in_default-angle_of
returns-in_default-angle_of c = no_two c.args.axis c.args.words.now z c.in-len2-up.len_at_least c.if-is_letter.ensures c.in_default-angle_of.ensures

pub returns-in_default-angle_of-2 : goal.returns-in_default-angle_of-2
returns-in_default-angle_of-2 c =
    no_three c.args.axis c.args.words.now z c.in-len3-up.len_at_least c.if-is_letter.ensures c.if-is_letter-2.ensures c.in_default-angle_of-2.ensures

pub returns-in_default-angle_of-3 : goal.returns-in_default-angle_of-3
returns-in_default-angle_of-3 c =
    no_four c.args.axis c.args.words.now z c.in-len4-up.len_at_least c.if-is_letter.ensures c.if-is_letter-2.ensures c.in_default-angle_of-3.ensures
