use Rattle.std.specs.Option.{option_copied}
use Rattle.dnw_zone_data.proofs.Pushed.{as_name}
use Rattle.dnw_zone_data.proofs.parsing.parse_name.Goals as goal

pub returns : goal.returns
returns c = as_name (option_copied c.args.origin) c.args.word.now c.args.out.now.items c.append_name.new.out.items c.append_name.result c.append_name.ensures
