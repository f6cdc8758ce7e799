use Rattle.std.proofs.Common.{List, ℕ, ◌++◌, refl, ap, ◌∙◌}
use Rattle.dnw_data.specs.Values.{u8, u16, u32, time}
use Rattle.dnw_zone_data.proofs.parsing.parse_number.Goals as goal

pub returns-in_default-read_time : goal.returns-in_default-read_time
returns-in_default-read_time c = rw c.in-Time.is (λ value own. c.in_default-read_time.ensures own.0 own.1)

pub returns-in_ok-push-in-U8 : goal.returns-in_ok-push-in-U8
returns-in_ok-push-in-U8 c =
    let n : ℕ = c.in-Some.number in rw c.in-U8.is (u8 n, (n, c.in-Some.ensures, refl), c.in_ok-push-in-U8.ensures.items)

pub returns-in_ok-extend_from_slice-in-U16 : goal.returns-in_ok-extend_from_slice-in-U16
returns-in_ok-extend_from_slice-in-U16 c =
    let n : ℕ = c.in-Some-u16_in.number in
    rw c.in-U16.is (u16 n, (n, c.in-Some-u16_in.ensures, refl), c.in_ok-extend_from_slice-in-U16.ensures.items ∙ ap (λ (xs : List ℕ). c.args.out.now.items ++ xs) c.to_be_bytes.ensures)

pub returns-in_ok-extend_from_slice-in-U32 : goal.returns-in_ok-extend_from_slice-in-U32
returns-in_ok-extend_from_slice-in-U32 c =
    let n : ℕ = c.in-Some-u32_in.number in
    rw c.in-U32.is (u32 n, (n, c.in-Some-u32_in.ensures, refl), c.in_ok-extend_from_slice-in-U32.ensures.items ∙ ap (λ (xs : List ℕ). c.args.out.now.items ++ xs) c.to_be_bytes-in-U32.ensures)

pub returns-in_ok-extend_from_slice-in-Time : goal.returns-in_ok-extend_from_slice-in-Time
returns-in_ok-extend_from_slice-in-Time c =
    let n : ℕ = c.in-Some-read_time.seconds in
    rw c.in-Time.is (time n, (n, c.in-Some-read_time.ensures, refl), c.in_ok-extend_from_slice-in-Time.ensures.items ∙ ap (λ (xs : List ℕ). c.args.out.now.items ++ xs) c.to_be_bytes-in-Time.ensures)
