use Rattle.std.proofs.Common.{List, ℕ, ◌++◌, refl, ap, ◌∙◌, arith}
use Rattle.dnw_data.specs.Values.{u8, u16, u32}
use Rattle.dnw_zone_data.proofs.parsing.push_number.Goals as goal

pub returns-in_ok-push-in-U8 : goal.returns-in_ok-push-in-U8
returns-in_ok-push-in-U8 c =
    let n : ℕ = c.args.number in rw c.in-U8.is (u8 n, (omega (arith, c.if-number-le255.true), refl), c.in_ok-push-in-U8.ensures.items)

pub returns-in_ok-extend_from_slice-in-U16 : goal.returns-in_ok-extend_from_slice-in-U16
returns-in_ok-extend_from_slice-in-U16 c =
    let n : ℕ = c.args.number in
    rw c.in-U16.is (u16 n, (omega (arith, c.if-number-le65535.true), refl), c.in_ok-extend_from_slice-in-U16.ensures.items ∙ ap (λ (xs : List ℕ). c.args.out.now.items ++ xs) c.to_be_bytes.ensures)

pub returns-in_ok-extend_from_slice-in-U32 : goal.returns-in_ok-extend_from_slice-in-U32
returns-in_ok-extend_from_slice-in-U32 c =
    let n : ℕ = c.args.number in
    rw c.in-U32.is (u32 n, (omega (arith, c.ranges.number.fits), refl), c.in_ok-extend_from_slice-in-U32.ensures.items ∙ ap (λ (xs : List ℕ). c.args.out.now.items ++ xs) c.to_be_bytes-in-U32.ensures)
