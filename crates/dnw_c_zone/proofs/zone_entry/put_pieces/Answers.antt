use Rattle.std.proofs.Common.{ℕ, List, ◌++◌, length, drop, refl, ap, ◌∙◌, arith, length-append, zero-add}
use Rattle.dnw_c_zone.proofs.RecordPuts.{put_more}
use Rattle.dnw_c_zone.proofs.zone_entry.put_pieces.Goals as goal

pub returns : goal.returns
returns c =
    let old : List ℕ = c.args.buffer.now in
    let first : List ℕ = c.args.first.now in
    let second : List ℕ = c.args.second.now in
    let third : List ℕ = c.args.third.now in
    let one = c.put_at.ensures ∙ ap (λ (n : ℕ). first ++ drop n old) (zero-add (length first)) in
    let two = put_more old c.put_at.new.buffer c.put_at-2.new.buffer first second _ refl one c.put_at-2.ensures in
    put_more old c.put_at-2.new.buffer c.put_at-3.new.buffer (first ++ second) third _ (omega (arith, length-append first second)) two c.put_at-3.ensures
