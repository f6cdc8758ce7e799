use Rattle.std.proofs.Common.{◌∷◌, [], refl, ◌∙◌, append_assoc, arith}
use Rattle.std.specs.Prelude.{string_bytes}
use Rattle.dnw_zone_data.proofs.printing.write_time.Goals as goal

pub returns : goal.returns
returns c =
    let date = c.time_text.result.bytes in
    let space = c.in_ok-push.ensures.ascii (omega arith) in
    (32 ∷ date, (date, c.time_text.ensures, refl), c.in_ok-push_str.ensures.bytes ∙ rw (c.as_str.ensures.value, c.in_ok-push.ensures.bytes, space) (append_assoc (string_bytes c.args.out.now) (32 ∷ []) date))
