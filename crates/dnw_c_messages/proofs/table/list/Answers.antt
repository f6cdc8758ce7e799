use Rattle.dnw_c_messages.proofs.Tables.{gives_err, table_goes, table_halts}
use Rattle.dnw_c_messages.proofs.table.list.Goals as goal

pub returns-in_err-list_sections : goal.returns-in_err-list_sections
returns-in_err-list_sections c =
    let (long, counts) = c.in_ok-counts.ensures.ok in
    gives_err _ _ c.from_residual-in_err-list_sections.result _ c.from_residual-in_err-list_sections.ensures.1
    (table_halts c.args.message.now c.args.max_pointers c.args.rows.now c.args.names.now c.in_ok-counts.counts c.after_header-reader.result long counts
    c.after_header-reader.ensures c.in_err-list_sections.field-0.0 c.in_err-list_sections.ensures.err)

pub returns : goal.returns
returns c =
    let (long, counts) = c.in_ok-counts.ensures.ok in (
      table_goes c.args.message.now c.args.max_pointers c.args.rows.now c.args.names.now c.in_ok-counts.counts c.after_header-reader.result long counts
          c.after_header-reader.ensures c.list_sections.new.rows c.list_sections.new.names c.list_sections.new.at _ c.in_ok-list_sections.ensures.ok,
      tt,
    )
