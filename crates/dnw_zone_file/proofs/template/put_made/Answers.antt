use Rattle.std.proofs.Common.{List, ℕ, sym, subst}
use Rattle.std.proofs.lemmas.List.{nil_from_length}
use Rattle.dnw_zone_file.proofs.Templates.{MadeSoFar, made_begins, made_ends, made_fails, made_on}
use Rattle.dnw_zone_file.proofs.template.put_made.Goals as goal

pub pieces-init : goal.pieces-init
pieces-init c = made_begins c.args.number c.args.quoted c.args.template.now c.args.out.now.items

pub pieces-preserved : goal.pieces-preserved
pieces-preserved c =
    subst (λ (left : List ℕ). MadeSoFar c.args.number c.args.quoted c.args.template.now c.args.out.now.items c.put_piece.new.out.items left)
    (sym c.left_after-left.ensures.is)
    (made_on c.pieces.invariant c.in-Some.first.now c.in-Some.rest.now c.put_piece.new.out.items c.in-Ok.len c.in-Some.ensures.cases.0
    c.in-Ok.ensures.ok c.in-Ok.ensures.len)

pub returns-clause-ok : goal.returns-clause-ok
returns-clause-ok c = made_ends c.pieces.invariant (nil_from_length c.pieces.left.now c.in_default.ensures.cases)

pub returns-in-Err-clause-err : goal.returns-in-Err-clause-err
returns-in-Err-clause-err c =
    made_fails c.pieces.invariant c.in-Some.first.now c.in-Some.rest.now c.in-Err.error c.in-Some.ensures.cases.0 c.in-Err.ensures.err
