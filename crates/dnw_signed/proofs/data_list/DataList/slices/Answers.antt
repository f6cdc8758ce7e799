use Rattle.dnw_signed.proofs.Listing.{all_cut, fits_next, starts_cutting}
use Rattle.dnw_signed.proofs.data_list.DataList.slices.Goals as goal

pub sizes-init : goal.sizes-init
sizes-init c = rw (c.as_slice-octets.ensures.value, c.as_slice-sizes.ensures.value) (starts_cutting c.args.self.now _ c.requires c.in_ok-all.ensures.items)

pub split_at-requires : goal.split_at-requires
split_at-requires c = fits_next c.sizes.invariant c.in-Some.ensures.cases.0

pub returns-clause-data : goal.returns-clause-data
returns-clause-data c = all_cut c.sizes.sizes.now c.in_default.ensures.cases c.sizes.invariant
