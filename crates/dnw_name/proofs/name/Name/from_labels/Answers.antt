use Rattle.std.proofs.Common.{[], ◌∷◌, inl, Ok, sym, ap, subst, arith, length-append}
use Rattle.std.proofs.lemmas.List.{map-append}
use Rattle.std.proofs.lemmas.Result.{err_from_is_err_and}
use Rattle.dnw_name_form.proofs.EditLemmas.{FailsOr_bind}
use Rattle.dnw_name.specs.Inside.Joined.{HasJoined}
use Rattle.dnw_name.proofs.Joins.{made_few}
use Rattle.dnw_name.proofs.name.Name.from_labels.Goals as goal

pub loop-label-init : goal.loop-label-init
loop-label-init g c =
    let it = c.into_iter-label-iterator.result in
    let gives = c.into_iter-label-iterator.ensures.into_iter_gives in
    let (can, finite) = c.requires.ends it gives in
    record { can = can; finite = finite; few = omega (arith, c.requires.fits it gives); joined = c.new-joining.ensures.joined }

pub add-requires : goal.add-requires
add-requires g c =
    let seen = c.loop-label.invariant in
    let (can, finite, less) = c.in-Some.ensures.goes.on seen.finite in
    omega (arith, seen.few, seen.joined.count, made_few g.L.IntoLabel.label_of c.loop-label.yielded, less)

pub loop-label-preserved : goal.loop-label-preserved
loop-label-preserved g c =
    let seen = c.loop-label.invariant in
    let (can, finite, less) = c.in-Some.ensures.goes.on seen.finite in
    record {
      can = can;
      finite = finite;
      few = omega (arith, seen.few, less, length-append c.loop-label.yielded (c.in-Some.label ∷ []));
      joined = subst (HasJoined c.add.new.self) (sym (map-append g.L.IntoLabel.label_of c.loop-label.yielded (c.in-Some.label ∷ []))) (c.in_ok-add.ensures.ok _ seen.joined);
    }

pub returns-in_err-finish : goal.returns-in_err-finish
returns-in_err-finish g c =
    let p = err_from_is_err_and c.from_residual-in_err-finish.result c.from_residual-in_err-finish.ensures.1 in
    record {
      joins = (
        c.into_iter-label-iterator.result,
        c.into_iter-label-iterator.ensures.into_iter_gives,
        inl (c.loop-label.yielded, (c.next.new.self, (c.loop-label.label-iterator, c.loop-label.yielded_by, c.in-None.ensures.steps)), rw (p.1, p.2) (FailsOr_bind _ _ _ (c.in_err-finish.ensures.follows _ c.loop-label.invariant.joined))),
      );
    }

pub returns : goal.returns
returns g c =
    let follows = c.in_ok-finish.ensures.follows _ c.loop-label.invariant.joined in
    record {
      joins = (
        c.into_iter-label-iterator.result,
        c.into_iter-label-iterator.ensures.into_iter_gives,
        inl (c.loop-label.yielded, (c.next.new.self, (c.loop-label.label-iterator, c.loop-label.yielded_by, c.in-None.ensures.steps)), rw follows (ap Ok (sym c.qualified.ensures))),
      );
    }
