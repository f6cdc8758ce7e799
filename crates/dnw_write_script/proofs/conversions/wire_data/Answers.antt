use Rattle.std.proofs.Common.{sym, ◌∙◌}
use Rattle.dnw_write_script.specs.WireRecords.{HaveNameAndOthers}
use Rattle.dnw_write_script.proofs.WireRecords.{no_name, some_name}
use Rattle.dnw_write_script.proofs.conversions.wire_data.Goals as goal

pub returns-then-has_name : goal.returns-then-has_name
returns-then-has_name c =
    let both : HaveNameAndOthers c.fields_of-kinds.result.now = (some_name c.fields_of-kinds.result.now (sym c.has_name.ensures ∙ c.if-has_name.true), c.in_default.ensures.none) in
    rw (c.fields_of-kinds.ensures, c.class.ensures, c.record_type.ensures, c.octets-octets.ensures.octets) at both

pub returns : goal.returns
returns c =
    let none = no_name c.fields_of-kinds.result.now (sym c.has_name.ensures ∙ c.if-has_name.false) in (
      rw (c.fields_of-kinds.ensures, c.class.ensures, c.record_type.ensures, c.octets-octets.ensures.octets) at none,
      c.in_ok-from_slice.ensures.items ∙ c.octets-octets.ensures.octets,
    )
