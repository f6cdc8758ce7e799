use Rattle.dnw_name.proofs.binary.decode.RecordTypeBinDecodable.from_bytes.Goals as goal

pub returns-clause-accepts : goal.returns-clause-accepts
returns-clause-accepts c x after h = let (ok, there) = c.read.ensures.accepts x after (rw c.new-decoder.ensures h) in ok
