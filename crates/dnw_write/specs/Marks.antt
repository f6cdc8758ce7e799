-- Marks: an encoder is put back to where it was.
use Rattle.std.specs.Prelude.{◌≡◌, ℕ, take}
use Rattle.dnw_write_suffixes.specs.Candidates.{candidates_before}
use Rattle.dnw_write.specs.Encoder.{CandidatesPrecede, Encoder}
use Rattle.dnw_write.specs.Emitting.{Outcome, Frame}

-- a mark: the offset of an encoder, and the number of its names that were counted
pub record MarkValue : Type 0 where
  pub offset : ℕ
  pub names : ℕ

abbrev pub mark_of : Encoder → MarkValue
mark_of v = record { offset = v.offset; names = v.names }

-- the encoder that ends at the mark: without the bytes and the candidates from there on, and with the mark's count
abbrev pub rewound : Encoder → MarkValue → Encoder
rewound v mark = record v {
  bytes = take mark.offset v.bytes;
  offset = mark.offset;
  candidates = candidates_before mark.offset v.candidates;
  names = mark.names;
}

-- Rewinding undoes whatever kept the frame of `emit`, if the mark was set at the buffer's end with every candidate
-- before it. The count of names is put back too.
abbrev pub RewindingUndoes : Type 0
RewindingUndoes = (v u : Encoder) (outcome : Outcome) → CandidatesPrecede v → Frame v outcome u → rewound u (mark_of v) ≡ v
