use Rattle.std.proofs.Common.{◌∙◌, sym, ap, option_map}
use Rattle.dnw_base.proofs.PrintedTypes.{names_fit}
use Rattle.dnw_base.proofs.record_type.RecordType.to_text.Goals as goal

pub named-requires : goal.named-requires
named-requires c = names_fit c.args.self c.in-Some.name.now (ap (option_map (λ name. name.now)) (sym c.in-Some.is) ∙ c.registered_name.ensures)
