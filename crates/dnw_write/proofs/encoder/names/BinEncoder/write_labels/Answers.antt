-- No candidate is usable, and so the name is written whole.
use Rattle.std.proofs.Common.{None, subst}
use Rattle.dnw_write.specs.Encoder.{Encoder}
use Rattle.dnw_write.specs.EncoderValue.{value}
use Rattle.dnw_write.specs.EmittedName.{EmitsLabels}
use Rattle.dnw_write.specs.Inside.Unwritten.{reported}
use Rattle.dnw_write.proofs.encoder.names.BinEncoder.write_labels.Goals as goal

pub returns-in-None-clause-writes : goal.returns-in-None-clause-writes
returns-in-None-clause-writes c =
    let whole = c.emit_whole-in-None in
    subst (λ (v : Encoder). EmitsLabels v c.args.name.now (reported v.max_size whole.result) (value whole.new.self)) c.link_candidates.ensures.value
    record { are_labels = whole.ensures.labels; choice = None; chooses = λ yes. c.in-None.ensures.finds; written_as = whole.ensures.writes }
