-- A copied text has the same bytes.
use Rattle.std.proofs.Common.{refl}
use Rattle.dnw_zone_lexer.proofs.errors.LexerError.clone.Goals as goal

pub returns-in_ok-clone-in-UnrecognizedDollar-clause-ok :
    goal.returns-in_ok-clone-in-UnrecognizedDollar-clause-ok
returns-in_ok-clone-in-UnrecognizedDollar-clause-ok c =
    rw c.in-UnrecognizedDollar.is (c.in_ok-clone-in-UnrecognizedDollar.field-0, refl, c.in_ok-clone-in-UnrecognizedDollar.ensures.cases)
