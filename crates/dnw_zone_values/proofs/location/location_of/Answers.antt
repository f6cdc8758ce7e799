use Rattle.dnw_zone_values.proofs.OneLocation.{after_first, located}
use Rattle.dnw_zone_values.proofs.LocationWords.{texts}
use Rattle.dnw_zone_values.proofs.location.location_of.Goals as goal

pub returns-in_default : goal.returns-in_default
returns-in_default c = λ l is.
    let (sizes, second, are) = after_first (texts c.args.words.now) l c.in_ok-latitude.latitude (texts c.in_ok-latitude.others.now) c.in_ok-latitude.ensures is in
    c.in_default.ensures l.longitude sizes second

pub returns : goal.returns
returns c =
    located (texts c.args.words.now) (texts c.in_ok-latitude.others.now) (texts c.in-Some.sizes.now) c.in_ok-latitude.latitude c.in-Some.longitude c.with_sizes.result
    c.in_ok-latitude.ensures c.in-Some.ensures c.with_sizes.ensures
