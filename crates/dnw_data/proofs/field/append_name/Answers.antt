use Rattle.std.proofs.Common.{rules}
use Rattle.dnw_name_read.proofs.Copying.{wire_taken}
use Rattle.dnw_data.proofs.field.append_name.Goals as goal

pub returns-clause-appends : goal.returns-clause-appends
returns-clause-appends c =
    let (size, filled) = rw c.unwrap.ensures at c.copy_wire.ensures.some in
    rw (← wire_taken c.args.name.now c.encoded_len-size.result _ _ c.encoded_len-size.ensures.size filled) (search rules)
