use Rattle.std.proofs.Common.{◌≡◌, ◌≤◌, ◌++◌, drop, length, sym, ap, ◌∙◌, subst, arith}
use Rattle.std.proofs.lemmas.List.{take_rest}
use Rattle.dnw_base.specs.DnsClasses.{class_code}
use Rattle.dnw_base.specs.RecordTypes.{type_code}
use Rattle.dnw_record.specs.DataCopies.{data_start, record_kinds}
use Rattle.dnw_record.specs.RecordFields.{up_to_end}
use Rattle.dnw_message_writer.specs.Inside.Splitting.{most_pieces}
use Rattle.dnw_message_writer.specs.Inside.Taken.{IsCopiedIn}
use Rattle.dnw_message_writer.proofs.Splitting.{few_pieces}
use Rattle.dnw_message_writer.proofs.Taken.{taken_is_copied, takes_all}
use Rattle.dnw_message_writer.proofs.taking.pieces_in.Goals as goal

pub split-requires : goal.split-requires
split-requires c =
    let x = c.args.item.now in
    let few = few_pieces (class_code x.class) (type_code x.record_type) (drop x.start (up_to_end x)) in
    record { few = omega (arith, ap length c.new-whole.ensures, ap most_pieces c.kinds-kinds.ensures, few) }

pub returns-then-split-clause-some : goal.returns-then-split-clause-some
returns-then-split-clause-some c =
    let x = c.args.item.now in
    let r = c.data_decoder-reader.result in
    let d = data_start x in
    let inside : r.index ≤ length r.bytes = omega (arith, c.index.ensures.within, c.index.ensures.index, ap length c.message.ensures) in
    let within : d.index ≤ length d.bytes = rw c.data_decoder-reader.ensures at inside in
    let all = rw (take_rest c.message.result.now c.index.result, c.message.ensures, c.index.ensures.index, c.data_decoder-reader.ensures, c.kinds-kinds.ensures) at c.split.ensures in
    let (xs, is, of) = all.are c.if-split.true in
    let same : c.split.new.pieces ≡ xs = is ∙ ap (λ ps. ps ++ xs) c.new-whole.ensures in
    subst (IsCopiedIn x) (sym same) (taken_is_copied x xs (takes_all (record_kinds x) d xs within of))

pub take-requires : goal.take-requires
take-requires c =
    let x = c.args.item.now in
    let few = few_pieces (class_code x.class) (type_code x.record_type) (drop x.start (up_to_end x)) in
    record { few = omega (arith, ap length c.new-pieces.ensures, ap most_pieces c.kinds-kinds.ensures, few) }

pub returns-then-take-clause-some : goal.returns-then-take-clause-some
returns-then-take-clause-some c =
    let x = c.args.item.now in
    let (xs, is, takes) = c.take.ensures c.if-take.true in
    let same : c.take.new.pieces ≡ xs = is ∙ ap (λ ps. ps ++ xs) c.new-pieces.ensures in
    subst (IsCopiedIn x) (sym same) (taken_is_copied x xs (rw (c.kinds-kinds.ensures, c.data_decoder-reader.ensures) at takes))
