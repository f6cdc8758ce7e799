-- What follows the owner of a record (RFC 1035, section 4.1.3).
use Rattle.std.specs.Prelude.{ℕ, ◌+◌, List}
use Rattle.dnw_record.specs.Records.{fixed_at, fixed_size, length_field, number_at, ttl_field}
use Rattle.dnw_c_messages.specs.declared.records.ReadRecord.{ReadRecord}

-- what C learns of a record whose owner ends at e, but of the owner
abbrev pub rest_at : List ℕ → ℕ → ReadRecord
rest_at b e = record {
  owner_len = 0;
  record_type = number_at (fixed_at b e) 0;
  record_class = number_at (fixed_at b e) 2;
  ttl = ttl_field (fixed_at b e);
  data_offset = e + fixed_size;
  data_len = length_field (fixed_at b e);
  end = e + fixed_size + length_field (fixed_at b e);
}
