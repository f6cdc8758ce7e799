use Rattle.std.proofs.Common.{◌%◌, ◌/◌, ◌+◌, ◌-◌, ◌*◌, ◌≡◌, ℕ, List, get_or, length, take, min, ap, ◌∙◌, arith}
use Rattle.std.proofs.lemmas.List.{take_all}
use Rattle.dnw_write_suffixes.specs.Inside.Links.{mix}
use Rattle.dnw_write_suffixes.proofs.links.wide_tag.Goals as goal

take_min : (n : ℕ) (xs : List ℕ) → take (min (length xs) n) xs ≡ take n xs
take_min n xs = grind (arith, take_all)

pub returns-clause-value : goal.returns-clause-value
returns-clause-value c =
    let bytes = c.args.labels.now in
    let at = c.octet_at-last.ensures.value ∙ ap (λ i. get_or bytes i 0) c.saturating_sub.ensures in
    ap (λ h. h / 4096 % 4096) (c.mix.ensures.value
    ∙ (ap (λ o. mix (length bytes % 256 + o * 256) (take c.min.result bytes)) at
    ∙ ap (mix (length bytes % 256 + get_or bytes (length bytes - 1) 0 * 256)) (ap (λ n. take n bytes) c.min.ensures ∙ take_min 64 bytes)))
