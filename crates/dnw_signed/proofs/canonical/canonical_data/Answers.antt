-- The data of one record after another are put into canonical form.
use Rattle.dnw_signed.proofs.Going.{all_listed, lists_from}
use Rattle.dnw_signed.proofs.canonical.canonical_data.Goals as goal

pub records-init : goal.records-init
records-init c = lists_from c.args.records.now c.new-list.result c.new-list.ensures.0 c.new-list.ensures.1 c.requires

pub returns : goal.returns
returns c = all_listed c.args.records.now c.records.left.now c.records.list c.in_default.ensures.cases c.records.invariant
