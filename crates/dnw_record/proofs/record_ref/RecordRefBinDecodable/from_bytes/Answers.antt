use Rattle.dnw_record.proofs.RecordReading.{from_start}
use Rattle.dnw_record.proofs.record_ref.RecordRefBinDecodable.from_bytes.Goals as goal

pub returns-clause-ok : goal.returns-clause-ok
returns-clause-ok c = from_start c.read.result c.new-decoder.result _ c.read.new.decoder c.new-decoder.ensures c.read.ensures.ok

pub returns-clause-accepts : goal.returns-clause-accepts
returns-clause-accepts c x after h = let (ok, there) = c.read.ensures.accepts x after (rw c.new-decoder.ensures h) in ok

pub returns-clause-rejects : goal.returns-clause-rejects
returns-clause-rejects c e h = c.read.ensures.rejects e (rw c.new-decoder.ensures h)
