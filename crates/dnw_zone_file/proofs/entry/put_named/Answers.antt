use Rattle.std.proofs.Common.{Some}
use Rattle.dnw_zone_file.proofs.entry.put_named.Goals as goal

pub returns-in-Some : goal.returns-in-Some
returns-in-Some c =
    let (few, (labels, are, is, named)) = c.in-Some.ensures in
    (few, (labels, are, is, named (Some c.args.origin.now)))
