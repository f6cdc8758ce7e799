use Rattle.std.proofs.Common.{◌∷◌, [], ◌∙◌}
use Rattle.std.proofs.lemmas.Result.{IfErr-weaker, on_ok_weaker}
use Rattle.dnw_c_base.proofs.Exits.{exits}
use Rattle.dnw_message_read.specs.declared.error.Section.TheVariants.{Additionals, Answers, Authorities}
use Rattle.dnw_c_messages.specs.Listings.{items}
use Rattle.dnw_c_messages.proofs.Steps.{goes_before, goes_both, goes_halts, halts_before}
use Rattle.dnw_c_messages.proofs.table.list_sections.Goals as goal

pub returns-in_err-list_items-clause-err : goal.returns-in_err-list_items-clause-err
returns-in_err-list_items-clause-err c =
    let ns = c.args.counts in
    exits _ c.from_residual.result _ c.from_residual.ensures.1
    (halts_before c.in_err-list_items.ensures.err (items Answers ns.answers ∷ items Authorities ns.authorities ∷ items Additionals ns.additionals ∷ []))

pub returns-in_err-list_items-2-clause-err : goal.returns-in_err-list_items-2-clause-err
returns-in_err-list_items-2-clause-err c =
    let ns = c.args.counts in
    let one = goes_before c.in_ok-list_items.ensures.ok
    (items Answers ns.answers ∷ items Authorities ns.authorities ∷ items Additionals ns.additionals ∷ []) in
    exits _ c.from_residual-in_err-list_items-2.result _ c.from_residual-in_err-list_items-2.ensures.1
    (goes_halts one (halts_before (rw c.in_ok-list_items.ensures.same at c.in_err-list_items-2.ensures.err)
    (items Authorities ns.authorities ∷ items Additionals ns.additionals ∷ [])))

pub returns-in_err-list_items-3-clause-err : goal.returns-in_err-list_items-3-clause-err
returns-in_err-list_items-3-clause-err c =
    let ns = c.args.counts in
    let same = c.in_ok-list_items.ensures.same in
    let later = c.in_ok-list_items-2.ensures.same ∙ same in
    let one = goes_before c.in_ok-list_items.ensures.ok
    (items Answers ns.answers ∷ items Authorities ns.authorities ∷ items Additionals ns.additionals ∷ []) in
    let two = goes_before (rw same at c.in_ok-list_items-2.ensures.ok) (items Authorities ns.authorities ∷ items Additionals ns.additionals ∷ []) in
    exits _ c.from_residual-in_err-list_items-3.result _ c.from_residual-in_err-list_items-3.ensures.1
    (goes_halts (goes_both one two) (halts_before (rw later at c.in_err-list_items-3.ensures.err) (items Additionals ns.additionals ∷ [])))

pub returns-clause-ok : goal.returns-clause-ok
returns-clause-ok c =
    let ns = c.args.counts in
    let same = c.in_ok-list_items.ensures.same in
    let later = c.in_ok-list_items-2.ensures.same ∙ same in
    let last = c.in_ok-list_items-3.ensures.same ∙ later in
    let one = goes_before c.in_ok-list_items.ensures.ok
    (items Answers ns.answers ∷ items Authorities ns.authorities ∷ items Additionals ns.additionals ∷ []) in
    let two = goes_before (rw same at c.in_ok-list_items-2.ensures.ok) (items Authorities ns.authorities ∷ items Additionals ns.additionals ∷ []) in
    let three = goes_before (rw later at c.in_ok-list_items-3.ensures.ok) (items Additionals ns.additionals ∷ []) in
    on_ok_weaker c.list_items-4.result (λ four. goes_both (goes_both one (goes_both two three)) (rw last at four)) c.list_items-4.ensures.ok

pub returns-clause-err : goal.returns-clause-err
returns-clause-err c =
    let ns = c.args.counts in
    let same = c.in_ok-list_items.ensures.same in
    let later = c.in_ok-list_items-2.ensures.same ∙ same in
    let last = c.in_ok-list_items-3.ensures.same ∙ later in
    let one = goes_before c.in_ok-list_items.ensures.ok
    (items Answers ns.answers ∷ items Authorities ns.authorities ∷ items Additionals ns.additionals ∷ []) in
    let two = goes_before (rw same at c.in_ok-list_items-2.ensures.ok) (items Authorities ns.authorities ∷ items Additionals ns.additionals ∷ []) in
    let three = goes_before (rw later at c.in_ok-list_items-3.ensures.ok) (items Additionals ns.additionals ∷ []) in
    IfErr-weaker c.list_items-4.result _ _ (λ failure four. goes_halts (goes_both one (goes_both two three)) (rw last at four)) c.list_items-4.ensures.err
