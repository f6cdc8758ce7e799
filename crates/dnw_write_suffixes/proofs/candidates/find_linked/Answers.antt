-- The search goes along the ring of the tag.
use Rattle.std.proofs.Common.{◌∙◌, ap, refl, arith}
use Rattle.std.proofs.lemmas.List.Elements.{AllWithin-none}
use Rattle.dnw_write_suffixes.specs.Inside.TagTable.{CannotBe, tag_at}
use Rattle.dnw_write_suffixes.specs.Inside.Links.{wide_tag}
use Rattle.dnw_write_suffixes.proofs.Rings.{goes_on}
use Rattle.dnw_write_suffixes.proofs.candidates.find_linked.Goals as goal

pub search-init : goal.search-init
search-init c =
    let cs = c.args.held.now in
    goes_on wide_tag (c.wide_tag-tag.ensures.value ∙ ap wide_tag c.labels_bytes-bytes.ensures) c.requires.few
    (c.first-next.ensures (tag_at wide_tag cs) (c.requires.linked.whatever cs refl))
    (AllWithin-none (CannotBe c.args.message.now c.args.labels) cs 0)

pub search-preserved : goal.search-preserved
search-preserved c =
    let cs = c.args.held.now in
    let at = rw c.in-Some.is at c.search.invariant in
    goes_on wide_tag (c.wide_tag-tag.ensures.value ∙ ap wide_tag c.labels_bytes-bytes.ensures) c.requires.few
    (c.after-next.ensures (tag_at wide_tag cs) (c.requires.linked.whatever cs refl) at.some.1)
    (rw c.clone.ensures.same at (c.usable_at.ensures.none c.in_default-usable_at.is))

pub search-smaller : goal.search-smaller
search-smaller c =
    let cs = c.args.held.now in
    let at = rw c.in-Some.is at c.search.invariant in
    let further = c.after-next.ensures (tag_at wide_tag cs) (c.requires.linked.whatever cs refl) at.some.1 in
    rw c.in-Some.is (omega (arith, further.order, at.some.0))
