-- The places that are kept are those of the account, before and after.
use Rattle.std.proofs.Common.{sym, subst}
use Rattle.dnw_write.specs.EncoderValue.{value}
use Rattle.dnw_write_script.specs.Script.{action}
use Rattle.dnw_write_script.specs.Pieces.{after_action}
use Rattle.dnw_write_script.specs.Inside.Running.{Tracks}
use Rattle.dnw_write_script.proofs.Placing.{tracks_reserve}
use Rattle.dnw_write_script.proofs.script.running.run_step.Goals as goal

pub returns-in-Reserve-clause-tracks : goal.returns-in-Reserve-clause-tracks
returns-in-Reserve-clause-tracks c a t =
    let kept = tracks_reserve c.args.places.now.items c.reserve.new.places.items a (value c.args.encoder.now) (value c.reserve.new.encoder) c.reserve.result c.requires.at_end t c.reserve.ensures.place c.reserve.ensures.reply in
    subst (λ s. Tracks c.reserve.new.places.items (after_action a (action s) c.reserve.result).places) (sym c.in-Reserve.is) kept
