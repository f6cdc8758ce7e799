-- The octets are the wire form of the labels that are kept and of the target's.
use Rattle.std.proofs.Common.{◌≡◌, ◌+◌, ◌<◌, ◌≤◌, ◌++◌, List, ℕ, Some, length, drop, ap, ◌∙◌, arith}
use Rattle.dns_names_wire.specs.Words.{encoded_size, max_name, wire}
use Rattle.ans_response.proofs.Spliced.{front, kept_long, spliced_labels, spliced_octets, spliced_read, spliced_size, substituted_none, substituted_some}
use Rattle.ans_response.proofs.aliases.substituted.Goals as goal

fits : (front_size kept size whole : ℕ) → front_size ≡ kept → kept + size ≤ max_name → whole ≡ front_size + size → whole ≤ max_name
fits front_size kept size whole long fit is = omega arith

goes_past : (front_size kept size whole : ℕ) → front_size ≡ kept → max_name < kept + size → whole ≡ front_size + size → max_name < whole
goes_past front_size kept size whole long past is = omega arith

pub returns-then-not-put_after : goal.returns-then-not-put_after
returns-then-not-put_after c =
    let owner = c.args.owner.now in
    let target = c.args.target.now in
    let name = c.args.name.now.labels in
    substituted_none owner target name c.requires
    (goes_past _ c.kept_octets-kept.result (encoded_size target) _ (kept_long owner target name c.requires c.kept_octets-kept.result c.kept_octets-kept.ensures.kept)
    (omega (arith, c.put_after.ensures.long c.if-not-put_after.true, c.copy_wire.auto.out)) (spliced_size (front owner target name c.requires) target))

pub first_name-requires : goal.first_name-requires
first_name-requires c =
    let owner = c.args.owner.now in
    let target = c.args.target.now in
    let name = c.args.name.now.labels in
    let (size, filled) = rw c.unwrap.ensures at c.copy_wire.ensures.some in
    let fit : encoded_size (front owner target name c.requires ++ target) ≤ max_name =
    fits _ c.kept_octets-kept.result (encoded_size target) _ (kept_long owner target name c.requires c.kept_octets-kept.result c.kept_octets-kept.ensures.kept)
    (omega (arith, c.put_after.ensures.fits c.if-not-put_after.false, c.copy_wire.auto.out)) (spliced_size (front owner target name c.requires) target) in (
      front owner target name c.requires ++ target,
      encoded_size (front owner target name c.requires ++ target),
      0,
      spliced_read owner target name c.requires c.put_after.new.octets (drop (length (wire target)) (drop c.kept_octets-kept.result c.copy_wire.new.out)) c.reads_back.ensures
          (spliced_labels owner target name c.requires c.kept_octets-kept.ensures.labels c.put_after.ensures.labels fit)
          (spliced_octets owner target name c.requires c.kept_octets-kept.result _ c.copy_wire.new.out c.put_after.new.octets c.kept_octets-kept.ensures.kept
          (rw c.as_name_ref.ensures at filled) (c.put_after.ensures.put c.if-not-put_after.false)),
    )

pub returns : goal.returns
returns c =
    let owner = c.args.owner.now in
    let target = c.args.target.now in
    let name = c.args.name.now.labels in
    let (size, filled) = rw c.unwrap.ensures at c.copy_wire.ensures.some in
    let fit : encoded_size (front owner target name c.requires ++ target) ≤ max_name =
    fits _ c.kept_octets-kept.result (encoded_size target) _ (kept_long owner target name c.requires c.kept_octets-kept.result c.kept_octets-kept.ensures.kept)
    (omega (arith, c.put_after.ensures.fits c.if-not-put_after.false, c.copy_wire.auto.out)) (spliced_size (front owner target name c.requires) target) in
    let at = spliced_read owner target name c.requires c.put_after.new.octets (drop (length (wire target)) (drop c.kept_octets-kept.result c.copy_wire.new.out)) c.reads_back.ensures
    (spliced_labels owner target name c.requires c.kept_octets-kept.ensures.labels c.put_after.ensures.labels fit)
    (spliced_octets owner target name c.requires c.kept_octets-kept.result _ c.copy_wire.new.out c.put_after.new.octets c.kept_octets-kept.ensures.kept
    (rw c.as_name_ref.ensures at filled) (c.put_after.ensures.put c.if-not-put_after.false)) in
    ap (λ (n : List (List ℕ)). Some n) (c.first_name.ensures (front owner target name c.requires ++ target) _ 0 at) ∙ substituted_some owner target name c.requires fit
