use Rattle.dnw_message_writer.proofs.Copied.{copies_hold}
use Rattle.dnw_message_writer.proofs.WholeSets.{sets_are_whole}
use Rattle.dnw_message_writer.proofs.laws.copies_hold_the_items.Goals as goal

pub returns-clause-items : goal.returns-clause-items
returns-clause-items c = copies_hold

pub returns-clause-sets : goal.returns-clause-sets
returns-clause-sets c = sets_are_whole
