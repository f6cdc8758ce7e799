use Rattle.std.proofs.Common.{sym, ◌∙◌}
use Rattle.std.specs.Prelude.{string_bytes}
use Rattle.dnw_zone_data.proofs.ParamWalks.{writes_params}
use Rattle.dnw_zone_data.proofs.params.write_param_list.Goals as goal

pub returns : goal.returns
returns c = writes_params c.args.octets.now (string_bytes c.args.out.now) (string_bytes c.write_params.new.out) c.write_params.result (sym c.keeps_mandatory.ensures ∙ c.if-not-keeps_mandatory.false) c.write_params.ensures.ok
