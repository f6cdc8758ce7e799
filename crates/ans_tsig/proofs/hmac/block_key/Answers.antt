use Rattle.std.proofs.Common.{◌≡◌, ℕ, length, arith, rules}
use Rattle.std.proofs.lemmas.Grind.{common_steps}
use Rattle.ans_tsig.specs.Hmac.{block_octets, short_key}
use Rattle.ans_tsig.proofs.Padding.{blocks_fit, padded}
use Rattle.ans_tsig.proofs.hmac.block_key.Goals as goal

pub returns : goal.returns
returns c =
    let long : c.len.result ≡ length c.short_key-block.result.items = search rules in
    let grown = rw c.unwrap.ensures at c.try_extend_from_slice.ensures.ok in
    padded _ _ (short_key c.args.hash c.args.key.now) _ (block_octets c.args.hash) c.block_size.result c.len.result grown (grind (arith, common_steps))
    c.short_key-block.ensures.key c.block_size.ensures long (blocks_fit c.args.hash)
