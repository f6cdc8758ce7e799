use Rattle.std.proofs.Common.{◌≡◌, true, false, [], ◌∷◌, append-nil, refl, sym, ◌∙◌}
use Rattle.std.proofs.lemmas.Result.{IfErr-weaker, on_ok_weaker}
use Rattle.dnw_signed.specs.Inside.Listing.{data_of}
use Rattle.dnw_signed.proofs.covering.select.Goals as goal

pub returns-then-not-is_covered-clause-ok : goal.returns-then-not-is_covered-clause-ok
returns-then-not-is_covered-clause-ok c = (
  [],
  ((λ covered. let no : false ≡ true = sym c.if-not-is_covered.true ∙ c.is_covered.ensures.1 covered in cc), refl),
  c.requires.listed,
  sym (append-nil (data_of c.args.list.now)),
)

pub returns-clause-ok : goal.returns-clause-ok
returns-clause-ok c =
    on_ok_weaker c.push_record.result
    (λ h. let (own, takes, is, taken) = h in
    let (short, listed, grown) = taken in
    (own ∷ [], (c.is_covered.ensures.0 c.if-not-is_covered.false, takes, is, short), listed, grown)) c.push_record.ensures.ok

pub returns-clause-err : goal.returns-clause-err
returns-clause-err c =
    IfErr-weaker c.push_record.result _ _ (λ error fails. (c.is_covered.ensures.0 c.if-not-is_covered.false, fails)) c.push_record.ensures.err
