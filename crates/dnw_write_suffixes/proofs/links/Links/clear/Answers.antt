use Rattle.dnw_write_suffixes.specs.Inside.Links.{wide_tag}
use Rattle.dnw_write_suffixes.proofs.Rings.{none_linked, zeros}
use Rattle.dnw_write_suffixes.proofs.links.Links.clear.Goals as goal

pub returns : goal.returns
returns c = λ cs. none_linked 4096 wide_tag _ _ cs (λ t below. let h = c.fill.ensures in rw (h.items (λ y e. e)) (zeros _ t))
