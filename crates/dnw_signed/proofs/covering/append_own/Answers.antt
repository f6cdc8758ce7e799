use Rattle.std.proofs.Common.{ℕ, List, ◌++◌, ap, ◌∙◌}
use Rattle.dnw_signed.proofs.Selecting.{signer_left}
use Rattle.dnw_signed.proofs.covering.append_own.Goals as goal

pub signs_for-requires : goal.signs_for-requires
signs_for-requires c = rw c.as_slice-2.ensures.value (signer_left c.in_ok-fields.ensures.ok)

pub returns-clause-ok : goal.returns-clause-ok
returns-clause-ok c =
    let fields = c.in_ok-fields.fields.items in
    let same = (rw c.in_default.is at c.in_ok-in_zone.ensures.ok) ∙ c.in_ok-reserve.ensures.items in
    let grown = c.in_ok-extend_from_slice.ensures.items ∙ ap (λ (x : List ℕ). c.append_known.new.out.items ++ x) c.as_slice.ensures.value
    ∙ ap (λ (x : List ℕ). x ++ fields) same in
    (fields, c.in_ok-fields.ensures.ok, rw (c.as_slice-2.ensures.value, c.owner.ensures) at c.signs_for.ensures, grown)
