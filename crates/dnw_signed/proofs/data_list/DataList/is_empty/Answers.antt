use Rattle.dnw_signed.proofs.Listing.{no_data}
use Rattle.dnw_signed.proofs.data_list.DataList.is_empty.Goals as goal

pub returns : goal.returns
returns c = rw (c.is_empty.ensures, c.as_slice.ensures.value) (no_data c.args.self.now.octets.items c.args.self.now.sizes.items)
