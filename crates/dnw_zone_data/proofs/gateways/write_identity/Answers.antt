use Rattle.std.proofs.Common.{◌≡◌, ◌-◌, ◌∷◌, ◌++◌, List, ℕ, length, slice_index, take, drop, refl, sym, ap, ◌∙◌, arith}
use Rattle.std.proofs.lemmas.List.{take-append-drop}
use Rattle.dnw_zone_data.proofs.GatewayWords.{four_of, identity_of, some_if, tail_is}
use Rattle.dnw_zone_data.proofs.gateways.write_identity.Goals as goal

pub returns : goal.returns
returns c =
    let octets : List ℕ = c.args.octets.now in
    let rest : List ℕ = take (length octets - 4) (drop 4 octets) in
    let same : rest ≡ drop 4 octets = tail_is 4 octets in
    let four = four_of octets c.in-len4-up.len_at_least ∙ ap (λ (xs : List ℕ). slice_index octets 0 ∷ slice_index octets 1 ∷ slice_index octets 2 ∷ slice_index octets 3 ∷ xs) (sym same) in
    let tag : List ℕ = c.in-Some.tag.now in
    let key : List ℕ = c.in-Some.key.now in
    let parts = c.in-Some.ensures.cases in
    let whole : rest ≡ tag ++ key = sym (take-append-drop c.from.result rest) ∙ rw (parts.1, parts.2) refl in
    let found = identity_of octets rest tag key (slice_index octets 0) (slice_index octets 1) (slice_index octets 2) (slice_index octets 3) four whole
    (parts.3 ∙ c.from.ensures) (some_if tag _ c.is_empty.ensures c.if-is_empty.false) (some_if key _ c.is_empty-else-is_empty.ensures c.if-is_empty-2.false)
    (omega (arith, c.type_inv.octets 2)) (omega (arith, c.type_inv.octets 3)) (omega (arith, c.type_inv.octets 0)) (omega (arith, c.if-key-key_len.false, c.from-key_len.ensures, c.from_be_bytes.ensures)) in
    (_, (slice_index octets 1, tag, key, found.0, found.1, refl), c.in_ok-write.ensures.bytes)
