use Rattle.dnw_write.specs.EmittingLaws.{frames_follow, frame_in_turn}
use Rattle.dnw_write.proofs.encoder.laws.frames_follow.Goals as goal

pub returns : goal.returns
returns g c = record { items = frame_in_turn g.E.BinEncodable.emits g.met.E.BinEncodable.keeps_frame; parts = frames_follow }
