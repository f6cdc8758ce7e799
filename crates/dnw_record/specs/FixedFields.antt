-- The fields of a record between its owner and its data, as a struct has them.
use Rattle.std.specs.Prelude.{◌≡◌, ℕ, List}
use Rattle.dnw_record.specs.declared.record_ref.FixedFields.{FixedFields}
use Rattle.dnw_record.specs.Records.{type_field, class_field, ttl_field, length_field}

abbrev pub FieldsOf : List ℕ → FixedFields → Type 0
FieldsOf octets fields =
    (fields.record_type ≡ type_field octets) × (fields.class ≡ class_field octets) × (fields.ttl ≡ ttl_field octets)
    × (fields.len ≡ length_field octets)
