use Rattle.std.proofs.Common.{◌≡◌, ◌++◌, ◌∷◌, [], List, ℕ, take, drop, sym, ap, ◌∙◌, append_assoc, append-nil, length, length-drop, arith}
use Rattle.std.specs.Prelude.{string_bytes}
use Rattle.dnw_zone_values.specs.ParamTexts.{param_text, params_text}
use Rattle.dnw_zone_values.proofs.Steps.{after_nil, params_more, spaced_more}
use Rattle.dnw_zone_values.proofs.printing.push_each.Goals as goal

pub loop-key-init : goal.loop-key-init
loop-key-init c =
    let all : List ℕ = c.args.octets.now in (_, [], omega arith, after_nil (params_text all), sym (append-nil (string_bytes c.args.out.now)), tt, omega arith)

pub loop-key-preserved : goal.loop-key-preserved
loop-key-preserved c =
    let (n, found, few, so_far, text, spaced, within) = c.loop-key.invariant in
    let (a, b, first, key) = c.in-Some.ensures.some in
    let (x, y, second, len) = c.in-Some-split_u16.ensures.some in
    let parts = c.in-Some-split_at_checked.ensures.cases in
    let own : List ℕ = c.in-Some-split_at_checked.own.now in
    let r2 : List ℕ = c.in-Some-split_u16.rest.now in
    let size : c.from.result ≡ c.in-Some-split_u16.len = c.from.ensures in
    let (m, shorter, more) =
    params_more c.args.octets.now c.loop-key.left.now c.in-Some.rest.now r2 own c.in-Some-split_at_checked.after.now found n c.in-Some.key c.in-Some-split_u16.len a b x y so_far few first second key len
    (parts.1 ∙ ap (λ (k : ℕ). take k r2) size) (parts.2 ∙ ap (λ (k : ℕ). drop k r2) size) (omega (arith, parts.0, size)) in
    let param = param_text c.in-Some.key own in
    let space = c.in_ok-push.ensures.ascii (omega arith) in
    let before : List ℕ = string_bytes c.loop-key.out in
    let old : List ℕ = string_bytes c.args.out.now in
    let whole : (before ++ 32 ∷ []) ++ param ≡ old ++ (found ++ 32 ∷ param) =
    append_assoc before (32 ∷ []) param ∙ ap (λ (xs : List ℕ). xs ++ 32 ∷ param) text ∙ append_assoc old found (32 ∷ param) in
    (m, found ++ 32 ∷ param, shorter, more, c.in_ok-write_param.ensures ∙ rw (c.in_ok-push.ensures.bytes, space) whole, spaced_more found param spaced, omega (arith, within, ap length first, ap length second, ap length parts.2, length-drop c.from.result r2))
