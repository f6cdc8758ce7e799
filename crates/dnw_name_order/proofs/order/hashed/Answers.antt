-- The wire form of the lowered labels, and the flag.
use Rattle.std.proofs.Common.{◌≡◌, ℕ, ◌≤◌, Bool, true, false, if◌then◌else◌, List, [], ◌∷◌, ◌++◌, length, map, refl, ap, ◌∙◌, arith}
use mir.Val.{bool_byte}
use Rattle.std.specs.Char.{to_ascii_lowercase}
use Rattle.dnw_base.specs.Names.{wire, lower}
use Rattle.dnw_base.proofs.Wires.{length_wire}
use Rattle.dnw_name_form.proofs.LowerWires.{lower_long, refill_lowered}
use Rattle.dnw_name_order.proofs.order.hashed.Goals as goal

pub unwrap-requires : goal.unwrap-requires
unwrap-requires c =
    let few : length c.as_wire.result.now ≤ 255 = omega (arith, ap length c.as_wire.ensures.form, length_wire c.args.labels, c.as_wire.ensures.labels.fit) in
    let none : length c.new-bytes.result.items ≡ 0 = ap length c.new-bytes.ensures in
    c.try_extend_from_slice.ensures.variant.1 (omega (arith, few, none))

pub push-requires : goal.push-requires
push-requires c =
    let held : c.try_extend_from_slice.new.self.items ≡ wire c.args.labels = rw (c.unwrap.ensures, c.new-bytes.ensures) at c.try_extend_from_slice.ensures.ok ∙ c.as_wire.ensures.form in
    let after = c.make_ascii_lowercase.ensures.after ∙ ap (map to_ascii_lowercase) c.as_mut_slice.ensures.value in
    let lowered = refill_lowered c.args.labels _ _ c.as_wire.ensures.labels.each held after in
    let few : length (wire (lower c.args.labels)) ≤ 255 = lower_long c.args.labels c.as_wire.ensures.labels in
    (omega arith, omega (arith, ap length lowered, few))

flag_byte : (b : Bool) → bool_byte b ≡ (if b then 1 else 0)
flag_byte true = refl
flag_byte false = refl

pub returns : goal.returns
returns c =
    let held : c.try_extend_from_slice.new.self.items ≡ wire c.args.labels = rw (c.unwrap.ensures, c.new-bytes.ensures) at c.try_extend_from_slice.ensures.ok ∙ c.as_wire.ensures.form in
    let after = c.make_ascii_lowercase.ensures.after ∙ ap (map to_ascii_lowercase) c.as_mut_slice.ensures.value in
    let lowered = refill_lowered c.args.labels _ _ c.as_wire.ensures.labels.each held after in
    c.push.ensures.items ∙ ap (λ (form : List ℕ). form ++ c.from.result ∷ []) lowered
    ∙ ap (λ (flag : ℕ). wire (lower c.args.labels) ++ flag ∷ []) (c.from.ensures ∙ flag_byte c.args.is_fqdn)
