use Rattle.std.proofs.Common.{◌≡◌, true, false, List, ℕ, inl, sym, ap, ◌∙◌, subst}
use Rattle.std.proofs.lemmas.Result.{IfErr-weaker, err_from_is_err_and, on_ok_weaker}
use Rattle.dnw_base.specs.DnsClasses.{class_code}
use Rattle.dnw_signed.specs.Covering.{AreCovered, FailsCovered, IsRightRrsig}
use Rattle.dnw_base.specs.Limits.{max_pointers}
use Rattle.dnw_signed.specs.Inside.Listing.{data_of}
use Rattle.dnw_signed.specs.Inside.Selecting.{IsOnlyCovered, KnowsZone}
use Rattle.dnw_signed.proofs.OnlyOne.{head_is, only_fails, part_is, signs_list, signs_only}
use Rattle.dnw_signed.proofs.covering.append_records.Goals as goal

pub only_covered-requires : goal.only_covered-requires
only_covered-requires c =
    let part = part_is c.as_slice.result.now c.args.out.now.items c.args.start c.as_slice.ensures.value in
    record {
      right = subst (IsRightRrsig c.args.rrsig.now) (sym part) c.requires.right;
      zone = subst (λ (x : List ℕ). KnowsZone c.args.rrsig.now x c.args.in_zone) (sym part) c.requires.zone;
    }

pub returns-in_err-list-in-None-clause-err : goal.returns-in_err-list-in-None-clause-err
returns-in_err-list-in-None-clause-err c =
    let part = part_is c.as_slice.result.now c.args.out.now.items c.args.start c.as_slice.ensures.value in
    let (error, is, cause) = err_from_is_err_and c.from_residual.result c.from_residual.ensures.1 in
    rw (is, cause) (inl (subst (λ (x : List ℕ). FailsCovered c.args.rrsig.now x c.args.records.now c.in_err-list-in-None.field-0.0) part c.in_err-list-in-None.ensures.err))

pub returns-in-Some-clause-ok : goal.returns-in-Some-clause-ok
returns-in-Some-clause-ok c =
    let part = part_is c.as_slice.result.now c.args.out.now.items c.args.start c.as_slice.ensures.value in
    let only = subst (λ (x : List ℕ). IsOnlyCovered c.args.rrsig.now x c.args.records.now c.in-Some.number c.in-Some.item.now) part c.in-Some.ensures in
    on_ok_weaker c.append_only.result
    (signs_only _ _ _ c.requires.right only
    (head_is c.args.rrsig.now _ _ _ part c.type_covered.ensures (c.from.ensures ∙ ap class_code c.class.ensures) c.label_count.ensures c.original_ttl.ensures))
    c.append_only.ensures.ok

pub returns-in-Some-clause-err : goal.returns-in-Some-clause-err
returns-in-Some-clause-err c =
    let part = part_is c.as_slice.result.now c.args.out.now.items c.args.start c.as_slice.ensures.value in
    let only = subst (λ (x : List ℕ). IsOnlyCovered c.args.rrsig.now x c.args.records.now c.in-Some.number c.in-Some.item.now) part c.in-Some.ensures in
    IfErr-weaker c.append_only.result _ _ (λ error fails. inl (only_fails error only fails)) c.append_only.ensures.err

pub returns-in_ok-append_list-in-None-clause-ok : goal.returns-in_ok-append_list-in-None-clause-ok
returns-in_ok-append_list-in-None-clause-ok c =
    let part = part_is c.as_slice.result.now c.args.out.now.items c.args.start c.as_slice.ensures.value in
    let (listed, left, covered, none) = c.in_ok-list-in-None.ensures.ok in
    let all = data_of c.in_ok-list-in-None.list in
    signs_list _ _ _ c.requires.right (subst (λ (x : List ℕ). AreCovered c.args.rrsig.now x c.args.records.now max_pointers all left) part covered)
    (λ empty. let no : false ≡ true = sym c.if-is_empty.false ∙ c.is_empty.ensures.1 empty in cc)
    (head_is c.args.rrsig.now _ _ _ part c.type_covered.ensures (c.from.ensures ∙ ap class_code c.class.ensures) c.label_count.ensures c.original_ttl.ensures)
    (rw c.owner.ensures at c.in_ok-append_list-in-None.ensures.ok)
