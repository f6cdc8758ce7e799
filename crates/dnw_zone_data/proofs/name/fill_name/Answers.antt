use Rattle.std.specs.Option.{option_copied}
use Rattle.dnw_zone_data.proofs.NamesRead.{plain_labels, plain_wire}
use Rattle.dnw_zone_data.proofs.name.fill_name.Goals as goal

pub copy_octets-requires : goal.copy_octets-requires
copy_octets-requires c = plain_wire c.args.text.now _ c.in-Some.ensures.1

pub returns-in-Some : goal.returns-in-Some
returns-in-Some c = plain_labels c.args.text.now _ _ (option_copied c.args.origin) c.copy_octets.ensures c.in-Some.ensures.1
