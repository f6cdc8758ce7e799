-- An encoder as a value, and what its calls do to it (RFC 1035, sections 2.3.2, 3.3, 4.1.4 and 4.2.1).
use Rattle.std.specs.Prelude.{◌≡◌, ℕ, ◌+◌, ◌-◌, ◌<◌, ◌≤◌, Bool, true, false, ◌&&◌, nat_lt, if◌then◌else◌, List, [], ◌∷◌, ◌++◌, length, take, drop, replicate, Result, Ok, Err}
use Rattle.std.specs.List.{All}
use Rattle.dnw_base.specs.Limits.{max_character_data, max_message, pointer_reach}
use Rattle.dnw_base.specs.declared.error.ProtoError.{ProtoError}
use Rattle.dnw_base.specs.declared.error.ProtoError.TheVariants.{CharacterDataTooLong, MaxBufferSizeExceeded, Memory}
use Rattle.dnw_write_suffixes.specs.Candidates.{Candidate, candidates_before}
use Rattle.dnw_write.specs.declared.encoder.modes.NameEncoding.{NameEncoding}
use Rattle.dnw_write.specs.declared.encoder.modes.NameEncoding.TheVariants.{Compressed, Uncompressed, UncompressedLowercase}
use Rattle.dnw_write.specs.declared.encoder.modes.RDataEncoding.{RDataEncoding}
use Rattle.dnw_write.specs.declared.encoder.modes.RDataEncoding.TheVariants.{StandardRecord, Canonical, Other}

-- how many candidates an encoder keeps unless another limit is set
abbrev pub usual_candidates : ℕ
usual_candidates = 64

-- how many names an encoder compresses unless another limit is set
abbrev pub usual_names : ℕ
usual_names = 120

-- An encoder: the bytes of its buffer and the offset of the next one, the maximum size, how names are written and
-- whether in canonical form, the candidates for compression, the names that were counted, and how many of both are
-- allowed.
pub record Encoder : Type 0 where
  pub bytes : List ℕ
  pub offset : ℕ
  pub max_size : ℕ
  pub encoding : NameEncoding
  pub canonical : Bool
  pub candidates : List Candidate
  pub names : ℕ
  pub candidate_limit : ℕ
  pub name_limit : ℕ

-- a new encoder over these bytes, which writes from the offset on
abbrev pub fresh : List ℕ → ℕ → Encoder
fresh bytes offset = record {
  bytes = bytes;
  offset = offset;
  max_size = max_message;
  encoding = Compressed;
  canonical = false;
  candidates = [];
  names = 0;
  candidate_limit = usual_candidates;
  name_limit = usual_names;
}

-- ---- writing at the offset

-- n more bytes are allowed
abbrev pub HasRoom : Encoder → ℕ → Type 0
HasRoom v n = v.offset + n ≤ v.max_size

-- n more bytes go past the end of the buffer, which may allocate
abbrev pub Grows : Encoder → ℕ → Type 0
Grows v n = length v.bytes < v.offset + n

-- bytes written at the offset, over those that were there
abbrev pub written : Encoder → List ℕ → Encoder
written v bytes = record v {
  bytes = take v.offset v.bytes ++ (bytes ++ drop (v.offset + length bytes) v.bytes);
  offset = v.offset + length bytes;
}

-- n bytes reserved at the offset: those that were there stay, missing ones are zero, and the buffer ends after them
abbrev pub reserved : Encoder → ℕ → Encoder
reserved v n = record v {
  bytes = take (v.offset + n) v.bytes ++ replicate (v.offset + n - length v.bytes) 0;
  offset = v.offset + n;
}

-- A call that needs room for n bytes makes `done` of the encoder v. It fails if there is no room, or if memory for more
-- bytes ran out; then the encoder is unchanged.
abbrev pub TakesRoom : {A : Type 0} → Encoder → ℕ → Encoder → Result A ProtoError → Encoder → Type 0
TakesRoom v n done (Ok result) w = HasRoom v n × (w ≡ done)
TakesRoom v n done (Err Memory) w = HasRoom v n × Grows v n × (w ≡ v)
TakesRoom v n done (Err (MaxBufferSizeExceeded size)) w = (v.max_size < v.offset + n) × (size ≡ v.max_size) × (w ≡ v)
TakesRoom v n done (Err error) w = ⊥

-- a write of bytes
abbrev pub Writes : Encoder → List ℕ → Result (Unit {0}) ProtoError → Encoder → Type 0
Writes v bytes outcome w = TakesRoom v (length bytes) (written v bytes) outcome w

-- a write of character data: a length octet, and at most 255 bytes
abbrev pub WritesText : Encoder → List ℕ → Result (Unit {0}) ProtoError → Encoder → Type 0
WritesText v text (Err (CharacterDataTooLong max len)) w =
    (max_character_data < length text) × (max ≡ max_character_data) × (len ≡ length text) × (w ≡ v)
WritesText v text outcome w = (length text ≤ max_character_data) × Writes v (length text ∷ text) outcome w

-- ---- candidates

-- Every candidate is before the offset.
abbrev pub CandidatesPrecede : Encoder → Type 0
CandidatesPrecede v = All (λ c. c.0 < v.offset) v.candidates

-- the encoder without the bytes and the candidates from its offset on
abbrev pub trimmed : Encoder → Encoder
trimmed v = record v { bytes = take v.offset v.bytes; candidates = candidates_before v.offset v.candidates }

-- one more candidate is allowed, and a pointer reaches to the offset
abbrev pub takes_candidate : Encoder → Bool
takes_candidate v = nat_lt v.offset pointer_reach && nat_lt (length v.candidates) v.candidate_limit

abbrev pub with_candidate : Encoder → Candidate → Encoder
with_candidate v c = if takes_candidate v then record v { candidates = v.candidates ++ c ∷ [] } else v

-- a candidate is stored, or dropped if no more are allowed
abbrev pub Stores : Encoder → Candidate → Result (Unit {0}) ProtoError → Encoder → Type 0
Stores v c (Ok done) w = w ≡ with_candidate v c
Stores v c (Err Memory) w = (takes_candidate v ≡ true) × (w ≡ v)
Stores v c (Err error) w = ⊥

-- ---- modes

-- How names of record data are written (RFC 3597, sections 4 and 7; RFC 4034, section 6.2): in canonical form or
-- not, given the encoder's own mode.
abbrev pub mode_of_rdata : RDataEncoding → Bool → NameEncoding → NameEncoding
mode_of_rdata StandardRecord true mode = UncompressedLowercase
mode_of_rdata StandardRecord false mode = mode
mode_of_rdata Canonical true mode = UncompressedLowercase
mode_of_rdata Canonical false mode = Uncompressed
mode_of_rdata Other canonical mode = Uncompressed

-- ---- placeholders

-- a placeholder of n bytes ends no later than the offset
abbrev pub HoldsOctets : Encoder → ℕ → ℕ → Type 0
HoldsOctets v place n = place + n ≤ v.offset

-- the encoder that writes at another offset
abbrev pub moved_to : Encoder → ℕ → Encoder
moved_to v offset = record v { offset = offset }

-- bytes written into a placeholder
abbrev pub filled : Encoder → ℕ → List ℕ → Encoder
filled v place bytes = moved_to (written (moved_to v place) bytes) v.offset
