use Rattle.std.proofs.Common.{◌∙◌}
use Rattle.dnw_signed.proofs.Listing.{ended}
use Rattle.dnw_signed.proofs.data_list.DataList.push_data.Goals as goal

pub returns : goal.returns
returns c =
    let (more, canonical, same, grown) = c.in_ok-put_data.ensures in
    (more, canonical, same, ended c.in_ok-fits.fits c.args.self.now _ more c.len-before.result c.requires (c.len-before.ensures ∙ c.args.self.now.octets.ok.0) (rw c.in_ok-fits.ensures.octets grown) (rw c.in_ok-fits.ensures.octets c.in_ok-fits.ensures.size))
