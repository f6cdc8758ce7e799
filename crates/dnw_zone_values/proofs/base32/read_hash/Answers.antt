use Rattle.std.proofs.Common.{take, inl, refl, sym, ap, ◌∙◌, arith}
use Rattle.std.proofs.lemmas.List.{take_at}
use Rattle.dnw_zone_values.proofs.Base32Fours.{no_hash, pushes_front}
use Rattle.dnw_zone_values.proofs.base32.read_hash.Goals as goal
use Rattle.dnw_zone_values.proofs.base32.read_hash.Goals.{else-whole-via-then-whole+else-has_hash_size, else-whole-via-else-whole}

pub returns-else-whole : goal.returns-else-whole
returns-else-whole c =
    let pushes = c.in-Ok.ensures.ok in
    let front = pushes_front _ _ _ c.in-Ok.whole pushes in (
      inl (
        refl,
        no_hash c.args.digits.now c.args.octets.now.items c.push_base32.new.octets.items c.in-Ok.whole pushes (λ is some few.
            elim c.else-whole.branch [
              | else-whole-via-then-whole+else-has_hash_size w ↦ w.has_hash_size.ensures.no w.if-has_hash_size.false (omega (arith, some), omega (arith, few))
              | else-whole-via-else-whole w ↦ cc (sym is ∙ w.if-whole.false)
            ]),
      ),
      c.truncate.ensures.items ∙ ap (take c.len-start.result) front.1 ∙ take_at c.args.octets.now.items front.0 c.len-start.result (omega arith),
    )
