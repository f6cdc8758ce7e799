use Rattle.dnw_signed.proofs.Putting.{canonical_of}
use Rattle.dnw_signed.proofs.fields.put_data.Goals as goal

pub returns : goal.returns
returns c =
    let (more, reads, grown) = c.in_ok-put_fields.ensures.ok in
    let here = rw (c.fields_of-kinds.ensures, c.class.ensures, c.record_type.ensures, c.new.ensures, c.octets-octets.ensures.octets) at reads in
    let (canonical, size) = canonical_of c.args.data.now more c.octets-octets.ensures.of_type here in
    (more, canonical, size, grown)
