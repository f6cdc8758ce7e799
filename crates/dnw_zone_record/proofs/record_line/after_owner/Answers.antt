use Rattle.std.proofs.Common.{◌∙◌}
use Rattle.dnw_zone_record.proofs.DataLengths.{line_whole}
use Rattle.dnw_zone_record.proofs.record_line.after_owner.Goals as goal

pub returns-clause-ok : goal.returns-clause-ok
returns-clause-ok c = λ labels form.
    let (own, is, items) = c.in_ok-append_data.ensures.ok in (
      c.in_ok-head.head,
      c.in_ok-head.text.now,
      own,
      c.in_ok-head.ensures.ok,
      is,
      line_whole labels c.args.owner.now c.in_ok-head.head own c.in_ok-octets.octets.items c.append_data.new.out.items c.put_data_len.new.octets.items _ form
          c.in_ok-octets.ensures (c.len-start.ensures ∙ c.in_ok-octets.octets.ok.0) items c.put_data_len.ensures,
    )
