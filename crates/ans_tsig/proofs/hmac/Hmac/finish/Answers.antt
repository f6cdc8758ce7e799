use Rattle.std.proofs.Common.{◌≡◌, ◌++◌, ℕ, List, ap, ◌∙◌, rules}
use Rattle.ans_tsig.specs.Hmac.{block_key, hashed, hmac, with_pad}
use Rattle.ans_tsig.specs.declared.hash.Hash.{Hash}
use Rattle.ans_tsig.proofs.hmac.Hmac.finish.Goals as goal

pub returns-clause-mac : goal.returns-clause-mac
unfolding hmac
returns-clause-mac c hash key text fed =
    let inner = c.finish.ensures.hash (with_pad 54 (block_key hash key) ++ text) fed.inner_fed in
    let outer = c.finish-2.ensures.hash (with_pad 92 (block_key hash key) ++ c.deref.result.now) (c.update.ensures.fed (with_pad 92 (block_key hash key)) fed.outer_fed) in
    let lent : c.deref.result.now ≡ c.finish.result.items = search rules in
    outer ∙ ap (λ (h : Hash). hashed h (with_pad 92 (block_key hash key) ++ c.deref.result.now)) (c.update.ensures.kind ∙ fed.outer_kind)
    ∙ ap (λ (z : List ℕ). hashed hash (with_pad 92 (block_key hash key) ++ z)) (lent ∙ inner ∙ ap (λ (h : Hash). hashed h (with_pad 54 (block_key hash key) ++ text)) fed.inner_kind)
