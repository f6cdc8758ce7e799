use Rattle.std.proofs.Common.{ap, ◌∙◌}
use Rattle.dnw_base.specs.RecordTypes.{type_of_code}
use Rattle.dnw_base.specs.DnsClasses.{class_of_code}
use Rattle.dnw_message_read.proofs.InTurn.{query_taken}
use Rattle.dnw_message_read.proofs.query.read_on.Goals as goal

pub returns-clause-ok : goal.returns-clause-ok
returns-clause-ok c =
    query_taken c.args.reader.now c.read.new.decoder c.read_u16.new.self c.read_u16-2.new.self _ _ _ _ _ _ c.in_ok-name.ensures.ok.1
    c.in_ok-read_u16.ensures.takes c.in_ok-read_u16-2.ensures.takes
    (c.from-query_type.ensures.gives ∙ ap type_of_code c.unverified.ensures) (c.from-query_class.ensures.gives ∙ ap class_of_code c.unverified-2.ensures)
