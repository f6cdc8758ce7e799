use Rattle.std.proofs.Common.{length, ap, ◌∙◌, arith}
use Rattle.dnw_base.specs.DnsClasses.{class_code}
use Rattle.dnw_base.specs.RecordTypes.{type_code}
use Rattle.dnw_message_writer.specs.Data.{are_to_compress}
use Rattle.dnw_message_writer.specs.Inside.Splitting.{most_pieces}
use Rattle.dnw_message_writer.proofs.Splitting.{few_pieces, late_types}
use Rattle.dnw_message_writer.proofs.data.pieces_of.Goals as goal

pub put_data-requires : goal.put_data-requires
put_data-requires c =
    let class = class_code c.from-class.result in
    let code = type_code c.from.result in
    let few = few_pieces class code c.args.octets.now in
    record {
      few = omega (arith, ap length c.new-pieces.ensures, ap most_pieces c.fields_of-kinds.ensures, few);
      late = λ above. ap are_to_compress c.fields_of-kinds.ensures ∙ late_types class code c.args.octets.now (omega (arith, above, c.from.ensures.code));
    }
