use Rattle.std.proofs.Common.{[], length, refl, sym, ◌∙◌, arith}
use Rattle.std.proofs.lemmas.Bool.{eqb-true}
use Rattle.std.proofs.lemmas.List.{append-nil, nil_from_length}
use Rattle.dnw_message_writer.proofs.Splitting.{of_all, some_pieces}
use Rattle.dnw_message_writer.proofs.data.put_whole.Goals as goal

pub push-requires : goal.push-requires
push-requires c = omega (arith, c.requires.few, some_pieces c.args.kinds.now)

pub returns-then-not-is_empty-clause-are : goal.returns-then-not-is_empty-clause-are
returns-then-not-is_empty-clause-are c = λ _. (
  _,
  c.push.ensures,
  of_all c.args.kinds.now c.args.octets.now _ c.requires.whole (c.are_data.ensures.0 c.if-not-are_data.false) (append-nil c.args.octets.now) (λ at. refl),
)

pub returns-else-not-is_empty-clause-are : goal.returns-else-not-is_empty-clause-are
returns-else-not-is_empty-clause-are c = λ _. (
  [],
  sym (append-nil c.args.pieces.now),
  of_all c.args.kinds.now c.args.octets.now [] c.requires.whole (c.are_data.ensures.0 c.if-not-are_data.false)
      (sym (nil_from_length c.args.octets.now (eqb-true (length c.args.octets.now) 0 (sym c.is_empty.ensures ∙ c.if-not-is_empty.false)))) (λ at. refl),
)
