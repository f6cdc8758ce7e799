use Rattle.std.proofs.Common.{◌++◌, None, List, ℕ, map, inl, inr, refl, sym, ap, ◌∙◌, subst}
use Rattle.std.specs.List.{flat_map}
use Rattle.std.proofs.lemmas.Result.{err_from_is_err_and}
use Rattle.dnw_base.specs.DnsClasses.{class_code}
use Rattle.dnw_base.specs.RecordTypes.{type_code}
use Rattle.dnw_data.specs.Values.{seen}
use Rattle.dnw_data.specs.FieldWires.{field_wire}
use Rattle.dnw_data.specs.Walks.{FieldsAre}
use Rattle.dnw_record.specs.DataCopies.{alone}
use Rattle.dnw_record.specs.DataPieces.{DataValue, data_kinds}
use Rattle.dnw_record.proofs.GivenFields.{are_data, not_refused}
use Rattle.dnw_record.proofs.rdata.RData.from_fields.Goals as goal

pub returns-in_err-append_fields-clause-accepts : goal.returns-in_err-append_fields-clause-accepts
returns-in_err-append_fields-clause-accepts c are =
    let (error, is, cause) = err_from_is_err_and c.from_residual.result c.from_residual.ensures.1 in
    elim c.in_err-append_fields.ensures.err [
      | inl memory ↦ rw (is, cause, memory) refl
      | inr fails ↦ absurd (not_refused 0 _ _ _ (rw (c.fields_of-kinds.ensures, c.front_of.ensures) are) fails)
    ]

pub of_octets-requires : goal.of_octets-requires
of_octets-requires c =
    let own = c.in_ok-append_fields.ensures.octets ∙ ap (λ (x : List ℕ). x ++ flat_map field_wire (map seen c.args.fields.now)) c.new-octets.ensures.items in
    (are_data (class_code c.args.class) (type_code c.args.record_type) _ _ own (rw (c.fields_of-kinds.ensures, c.front_of.ensures) at c.in_ok-append_fields.ensures.are) c.in_ok-append_fields.ensures.values).0

pub returns-clause-ok : goal.returns-clause-ok
returns-clause-ok c =
    let own = c.in_ok-append_fields.ensures.octets ∙ ap (λ (x : List ℕ). x ++ flat_map field_wire (map seen c.args.fields.now)) c.new-octets.ensures.items in
    let (_, are) = are_data (class_code c.args.class) (type_code c.args.record_type) _ _ own (rw (c.fields_of-kinds.ensures, c.front_of.ensures) at c.in_ok-append_fields.ensures.are) c.in_ok-append_fields.ensures.values in
    let is = c.of_octets.ensures in (
      ap (λ (r : DataValue). r.class) is,
      ap (λ (r : DataValue). r.record_type) is,
      subst (λ (r : DataValue). FieldsAre 0 (data_kinds r) (alone r.octets) (map seen c.args.fields.now) None) (sym is) are,
    )
