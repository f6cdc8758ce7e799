use Rattle.std.proofs.Common.{◌≡◌, ◌≤◌, ◌+◌, ◌*◌, length}
use Rattle.dnw_base.specs.Limits.{max_message}
use Rattle.dnw_signed.specs.KeyTags.{word_sum}
use Rattle.dnw_signed.proofs.key_tag.word_sum.Given as goal

-- the sum so far, and that of what is left, is that of all
abbrev pub invariant-words : goal.invariant-words
invariant-words l = record {
  whole : l.sum + word_sum l.left ≡ word_sum l.octets;
  below : l.sum + 65535 * length l.left ≤ 65535 * max_message;
}

abbrev pub decreases-words : goal.decreases-words
decreases-words l = length l.left
