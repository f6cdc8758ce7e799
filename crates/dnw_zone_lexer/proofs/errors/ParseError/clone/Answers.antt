-- A copied text has the same bytes.
use Rattle.std.proofs.Common.{refl}
use Rattle.dnw_zone_lexer.proofs.errors.ParseError.clone.Goals as goal

pub returns-in-MissingToken-clause-ok : goal.returns-in-MissingToken-clause-ok
returns-in-MissingToken-clause-ok c =
    rw c.in-MissingToken.is (c.in_ok-clone-in-MissingToken.field-0, refl, c.in_ok-clone-in-MissingToken.ensures.cases)

pub returns-in-Msg-clause-ok : goal.returns-in-Msg-clause-ok
returns-in-Msg-clause-ok c =
    rw c.in-Msg.is (c.in_ok-clone-in-Msg.field-0, refl, c.in_ok-clone-in-Msg.ensures.cases)

pub returns-in-ParseTime-clause-ok : goal.returns-in-ParseTime-clause-ok
returns-in-ParseTime-clause-ok c =
    rw c.in-ParseTime.is (c.in_ok-clone-in-ParseTime.field-0, refl, c.in_ok-clone-in-ParseTime.ensures.cases)
