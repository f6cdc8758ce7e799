use Rattle.std.proofs.Common.{suc, ap, arith, length, length-drop}
use Rattle.dnw_zone_file.proofs.OneMore.{next_records}
use Rattle.dnw_zone_file.proofs.zone_text.read_records.Goals as goal

pub entries-preserved : goal.entries-preserved
entries-preserved c =
    let (n, first, is, so_far) = c.entries.invariant.so_far in
    let (entry, takes, of_text, e) = c.in-Ok.ensures.ok in
    record {
      so_far = (suc n, first, is, next_records n first c.entries.context c.take_record.new.context c.args.text.now c.entries.left.now _ _ _ entry c.in-Ok.used so_far takes of_text e c.rest_of-left.ensures);
      within = omega (arith, c.entries.invariant.within, length-drop c.in-Ok.used c.entries.left.now, ap length c.rest_of-left.ensures);
    }
