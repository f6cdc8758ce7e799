-- What a contract sees of a `BinEncoder`.
use Rattle.std.specs.Prelude.{ℕ, List}
use Rattle.std.specs.Borrow.{GName}
use Rattle.dnw_write.specs.declared.encoder.BinEncoder.{BinEncoder}
use Rattle.dnw_write.specs.Encoder.{Encoder}
use Rattle.dnw_write_suffixes.specs.Candidates.{Candidate}

-- the bytes of the buffer, whatever else the encoder owns
abbrev pub buffer_bytes : {C : Type 0} → BinEncoder C → List ℕ
buffer_bytes e = e.buffer.now.items

-- the encoder as a value
abbrev pub value : BinEncoder (List Candidate) → Encoder
value e = record {
  bytes = e.buffer.now.items;
  offset = e.offset;
  max_size = e.max_size;
  encoding = e.encoding;
  canonical = e.canonical;
  candidates = e.candidates;
  names = e.names;
  candidate_limit = e.candidate_limit;
  name_limit = e.name_limit;
}

-- the loan of the buffer: an encoder that keeps it still writes into the buffer that it was made over
abbrev pub lender : BinEncoder (List Candidate) → GName
lender e = e.buffer.ghost_name
