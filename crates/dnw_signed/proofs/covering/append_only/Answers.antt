use Rattle.std.proofs.Common.{ℕ, List, ◌++◌, length, ap, ◌∙◌, append_assoc}
use Rattle.std.proofs.lemmas.Result.{on_ok_weaker}
use Rattle.std.specs.Int.{w16, to_be_bytes}
use Rattle.dnw_signed.specs.Inside.Heads.{head_with}
use Rattle.dnw_signed.proofs.covering.append_only.Goals as goal

pub returns-clause-ok : goal.returns-clause-ok
returns-clause-ok c =
    let out = c.args.out.now.items in
    let head = head_with c.args.rrsig.now.owner c.args.head.now in
    let begins = rw c.owner.ensures at c.in_ok-append_head.ensures.ok in
    on_ok_weaker c.append_counted.result
    (λ h. let (octets, has, is) = h in
    let counted = to_be_bytes w16 (length octets) ++ octets in
    (octets, has, is ∙ ap (λ (x : List ℕ). x ++ counted) begins ∙ append_assoc out head counted)) c.append_counted.ensures.ok
