use Rattle.dnw_zone_values.specs.Strings.{IsLongText}
use Rattle.dnw_zone_data.proofs.Pushed.{as_octets}
use Rattle.dnw_zone_data.proofs.parsing.parse_text.Goals as goal

pub returns : goal.returns
returns c = as_octets (IsLongText c.args.word.now) c.args.out.now.items c.push_text.new.out.items c.push_text.result c.push_text.ensures
