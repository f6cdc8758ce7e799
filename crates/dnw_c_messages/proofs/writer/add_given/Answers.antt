-- A record that is given is added, or not, as one with its owner is.
use Rattle.std.proofs.Common.{inl, inr}
use Rattle.dnw_c_messages.proofs.writer.add_given.Goals as goal

pub returns-in-Ok : goal.returns-in-Ok
returns-in-Ok c =
    let (pieces, has, added) = c.in-Ok.ensures in
    (c.in_ok-owner.owner, pieces, record { owned = c.in_ok-owner.ensures.ok; typed = has }, added)

pub returns-in-Err : goal.returns-in-Err
returns-in-Err c =
    let owner = c.in_ok-owner.owner in
    let owned = c.in_ok-owner.ensures.ok in (
      elim c.in-Err.ensures.0 [
        | inl (none, is) ↦ inl (inr (owner, owned, none, is))
        | inr (pieces, has, fails) ↦ inr (owner, pieces, record { owned = owned; typed = has }, fails)
      ],
      c.in-Err.ensures.1,
    )
