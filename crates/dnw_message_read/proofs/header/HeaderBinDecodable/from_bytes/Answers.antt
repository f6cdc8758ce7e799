use Rattle.dnw_message_read.specs.Headers.{TakesHeader}
use Rattle.dnw_message_read.proofs.Starts.{from_start}
use Rattle.dnw_message_read.proofs.header.HeaderBinDecodable.from_bytes.Goals as goal

pub returns-clause-ok : goal.returns-clause-ok
returns-clause-ok c = from_start TakesHeader c.read.result c.new-decoder.result _ c.read.new.decoder c.new-decoder.ensures c.read.ensures.ok

pub returns-clause-accepts : goal.returns-clause-accepts
returns-clause-accepts c x after h = let (ok, there) = c.read.ensures.accepts x after (rw c.new-decoder.ensures h) in ok
