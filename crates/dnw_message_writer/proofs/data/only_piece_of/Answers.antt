use Rattle.std.proofs.Common.{[], ◌∷◌, subst, sym, ap, ◌∙◌, arith}
use Rattle.std.proofs.lemmas.Option.{IfSome_then}
use Rattle.dnw_base.specs.DnsClasses.{class_code}
use Rattle.dnw_base.specs.RecordTypes.{type_code}
use Rattle.dnw_data.specs.Table.{fields_of}
use Rattle.dnw_message_writer.specs.Data.{AreOfData, are_to_compress}
use Rattle.dnw_message_writer.proofs.Splitting.{late_types}
use Rattle.dnw_message_writer.proofs.data.only_piece_of.Goals as goal

pub only_piece-requires : goal.only_piece-requires
only_piece-requires c =
    λ above. ap are_to_compress c.fields_of-kinds.ensures
    ∙ late_types (class_code c.from-class.result) (type_code c.from.result) c.args.octets.now (omega (arith, above, c.from.ensures.code))

pub returns-then-record_type-eq-RRSIG : goal.returns-then-record_type-eq-RRSIG
returns-then-record_type-eq-RRSIG c =
    IfSome_then c.signature.result c.signature.ensures (λ piece of.
    subst (λ n. AreOfData (fields_of c.args.class n c.args.octets.now) c.args.octets.now (piece ∷ [])) (sym c.if-record_type-eq-RRSIG.true) (of c.args.class))
