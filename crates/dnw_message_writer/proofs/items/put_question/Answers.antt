use Rattle.std.proofs.lemmas.Option.{IfSome_then}
use Rattle.dnw_message_writer.specs.Hints.{slot_of}
use Rattle.dnw_message_writer.proofs.Laying.{question_laid}
use Rattle.dnw_message_writer.proofs.items.put_question.Goals as goal

pub returns-clause-some : goal.returns-clause-some
returns-clause-some c =
    let (owned, fits) = c.in_ok-end.ensures.some in
    IfSome_then c.put_octets.result c.put_octets.ensures.some
    (λ last h. (
      question_laid slot_of c.args.limit c.args.message.now c.args.at c.args.near c.args.hints.now c.args.name c.put_owner.new.hints c.requires.limit
          c.requires.at c.put_owner.new.message c.in_ok-end.end owned fits c.args.query_type c.args.class c.put_octets.new.message
          c.question_fields.result last c.question_fields.ensures h.0 h.1,
      h.2,
    ))
