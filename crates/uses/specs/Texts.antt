-- Records whose data cannot be parsed from their text: they are too many once their names are whole, or no data of their type.
use Rattle.std.specs.Prelude.{◌≡◌, ◌<◌, ℕ, List, length}
use Rattle.dns_names_wire.specs.Words.{ArePlain, IsPlainData, RecordValue, class_code, fields_of, max_data, type_code}

-- The octets have a record whose data, with names that are not compressed, are more than data may have.
abbrev pub HasLongData : List ℕ → Type 0
HasLongData octets = (r : RecordValue) × (own : List ℕ) × (r.message ≡ octets) × IsPlainData r own × (max_data < length own)

-- The octets have a record whose data, with names that are not compressed, are no data of its class and type.
abbrev pub HasNoFields : List ℕ → Type 0
HasNoFields octets =
    (r : RecordValue) × (own : List ℕ) × (r.message ≡ octets) × IsPlainData r own × (¬ (ArePlain (fields_of (class_code r.class) (type_code r.record_type) own) own))
