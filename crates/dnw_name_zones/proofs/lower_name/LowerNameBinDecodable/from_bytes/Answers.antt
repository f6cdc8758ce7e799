use Rattle.dnw_name_zones.proofs.lower_name.LowerNameBinDecodable.from_bytes.Goals as goal

pub returns-clause-accepts : goal.returns-clause-accepts
returns-clause-accepts c x after h = (c.read.ensures.accepts x after (rw c.new-decoder.ensures h)).0

pub returns-clause-rejects : goal.returns-clause-rejects
returns-clause-rejects c e h = c.read.ensures.fails e (rw c.new-decoder.ensures h)
