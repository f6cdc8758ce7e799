-- The search goes along the ring of the tag.
use Rattle.std.proofs.Common.{◌∙◌, ap, refl, arith}
use Rattle.std.proofs.lemmas.List.Elements.{AllWithin-none}
use Rattle.dnw_write_suffixes.specs.Inside.TagTable.{CannotBe, tag, tag_at}
use Rattle.dnw_write_suffixes.proofs.CandidateLists.{none_usable}
use Rattle.dnw_write_suffixes.proofs.Rings.{goes_on}
use Rattle.dnw_write_suffixes.proofs.candidates.Candidates.find_usable.Goals as goal

pub search-init : goal.search-init
search-init c =
    let cs = c.self.inside.held in
    goes_on tag (c.tag-tag.ensures.value ∙ ap tag c.labels_bytes-bytes.ensures) c.self.invariant.marked.few
    (c.first-next.ensures (tag_at tag cs) (c.self.invariant.marked.linked.whatever cs refl))
    (AllWithin-none (CannotBe c.args.message.now c.args.labels) cs 0)

pub search-preserved : goal.search-preserved
search-preserved c =
    let cs = c.self.inside.held in
    let at = rw c.in-Some.is at c.search.invariant in
    goes_on tag (c.tag-tag.ensures.value ∙ ap tag c.labels_bytes-bytes.ensures) c.self.invariant.marked.few
    (c.after-next.ensures (tag_at tag cs) (c.self.invariant.marked.linked.whatever cs refl) at.some.1)
    (rw c.clone.ensures.same at (c.usable_at.ensures.none c.in_default-usable_at.is))

pub search-smaller : goal.search-smaller
search-smaller c =
    let cs = c.self.inside.held in
    let at = rw c.in-Some.is at c.search.invariant in
    let further = c.after-next.ensures (tag_at tag cs) (c.self.invariant.marked.linked.whatever cs refl) at.some.1 in
    rw c.in-Some.is (omega (arith, further.order, at.some.0))

pub returns-clause-finds : goal.returns-clause-finds
returns-clause-finds c =
    let at = rw c.in_default.is at c.search.invariant in
    rw (← c.self.view_is) (none_usable c.self.inside.tag_table.count
    (omega (arith, c.if-len.false, c.len.ensures, c.len-2.ensures)) at.passed)
