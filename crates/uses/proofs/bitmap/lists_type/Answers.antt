-- The set has the types that the bitmap lists.
use Rattle.std.proofs.Common.{rules}
use Rattle.dns_names_wire.specs.Words.{next_bytes}
use Rattle.uses.proofs.Listed.{finds_bits}
use Rattle.uses.proofs.bitmap.lists_type.Goals as goal

pub returns : goal.returns
returns c =
    finds_bits c.bitmaps_list_bits.ensures.windows c.bitmaps_list_bits.ensures.bits (next_bytes c.args.decoder.now c.args.length)
    c.in_ok-set.set.types c.args.record_type c.in_ok-set.ensures.ok.1 c.contains.result (search rules)
