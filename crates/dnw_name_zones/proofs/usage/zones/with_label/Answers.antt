use Rattle.dnw_name_zones.proofs.Appending.{appended}
use Rattle.dnw_name_zones.proofs.usage.zones.with_label.Goals as goal

pub returns : goal.returns
returns c = appended c.args.name c.args.label.now c.append_label.result c.requires.label c.requires.room c.append_label.ensures.follows
