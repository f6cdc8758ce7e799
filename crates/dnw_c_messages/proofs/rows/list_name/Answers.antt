use Rattle.std.proofs.lemmas.Result.{on_ok_weaker}
use Rattle.dnw_c_messages.proofs.Sheets.{name_advances}
use Rattle.dnw_c_messages.proofs.rows.list_name.Goals as goal

pub returns-clause-ok : goal.returns-clause-ok
returns-clause-ok c =
    let (size, few, is) = c.in_ok-name_len.ensures.0 in
    on_ok_weaker c.list_row.result
    (λ more. (
      c.if-pointers-at.false,
      name_advances c.args.rows.now c.list_row.new.rows c.args.names.now c.put_name.new.form c.args.at.now c.list_row.new.at
          c.args.name.now c.in_ok-name_len.name_len c.args.pointers c.args.row c.requires.names size few is more,
    )) c.list_row.ensures.ok
