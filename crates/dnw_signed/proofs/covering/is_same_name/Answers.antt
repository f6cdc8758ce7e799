-- Names of different sizes are not the same.
use Rattle.std.proofs.Common.{sym, ◌∙◌}
use Rattle.dnw_name_order.proofs.Comparing.{lower_size}
use Rattle.dnw_signed.proofs.covering.is_same_name.Goals as goal

pub returns-then-encoded_len : goal.returns-then-encoded_len
returns-then-encoded_len c =
    (λ no. cc, λ same. absurd (c.if-encoded_len.true (c.encoded_len.ensures.size ∙ lower_size _ _ same ∙ sym c.encoded_len-2.ensures.size)))
