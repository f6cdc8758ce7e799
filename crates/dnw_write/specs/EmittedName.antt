-- How a name is written, with compression (RFC 1035, section 4.1.4).
--
-- If a suffix of the name has a usable candidate, the longest such suffix is written as a pointer to its first usable
-- candidate. The labels before the pointer, or all labels, are kept as candidates for later names.
use Rattle.std.specs.Prelude.{◌≡◌, ◌≢◌, ℕ, ◌+◌, ◌-◌, ◌<◌, ◌≤◌, ◌/◌, ◌%◌, Bool, true, false, ◌&&◌, nat_lt, if◌then◌else◌, List, [], ◌∷◌, ◌++◌, length, take, Option, Some, None, Ok, Err, ◌⊎◌}
use Rattle.dnw_base.specs.Limits.{pointer_bits, pointer_reach}
use Rattle.dnw_base.specs.Names.{NameValue, AreLabels, encoded_size, labels_wire, wire, lower}
use Rattle.dnw_base.specs.declared.error.ProtoError.TheVariants.{MaxBufferSizeExceeded, Memory}
use Rattle.dnw_write_suffixes.specs.Candidates.{Candidate, IsUsable, IsFirstUsable, candidates_before, suffixes}
use Rattle.dnw_write.specs.declared.encoder.modes.NameEncoding.{NameEncoding}
use Rattle.dnw_write.specs.declared.encoder.modes.NameEncoding.TheVariants.{Compressed, UncompressedLowercase}
use Rattle.dnw_write.specs.Encoder.{Encoder, HasRoom, Grows, written}
use Rattle.dnw_write.specs.Emitting.{Outcome, Emits}

-- ---- what a pointer may stand for

-- the message that is written so far
abbrev pub so_far : Encoder → List ℕ
so_far v = take v.offset v.bytes

-- The labels are front and back, and a pointer to the target stands for back: the first candidate that is usable for
-- back is there, and none is usable for a longer suffix.
pub record Points (v : Encoder) (labels front back : List (List ℕ)) (target : ℕ) : Type 0 where
  pub parts : labels ≡ front ++ back
  pub some : back ≢ []
  pub usable : IsFirstUsable (so_far v) v.candidates back target
  pub longest : (less more : List (List ℕ)) (other : ℕ) (before after : List Candidate) → labels ≡ less ++ more → more ≢ []
      → IsUsable (so_far v) v.candidates more other before after → length front ≤ length less

-- No suffix of the labels has a usable candidate.
abbrev pub PointsNowhere : Encoder → List (List ℕ) → Type 0
PointsNowhere v labels = (front back : List (List ℕ)) (target : ℕ) (before after : List Candidate) → labels ≡ front ++ back
    → back ≢ [] → IsUsable (so_far v) v.candidates back target before after → ⊥

-- Only the front is written, and a pointer to the target stands for the back.
pub record Share : Type 0 where
  pub front : List (List ℕ)
  pub back : List (List ℕ)
  pub target : ℕ

abbrev pub is_compressed : NameEncoding → Bool
is_compressed Compressed = true
is_compressed mode = false

-- the next name is compressed: the mode says so, and one more name is allowed
abbrev pub compresses : Encoder → Bool
compresses v = is_compressed v.encoding && nat_lt v.names v.name_limit

-- The labels are written in this way: whole, or with a pointer.
abbrev pub Chooses : Encoder → List (List ℕ) → Option Share → Type 0
Chooses v labels None = compresses v ≡ true → PointsNowhere v labels
Chooses v labels (Some share) = (compresses v ≡ true) × Points v labels share.front share.back share.target

-- ---- what is written

-- a pointer to an offset: 14 bits after two that are set
abbrev pub pointer_to : ℕ → List ℕ
pointer_to offset = (pointer_bits + offset / 256) ∷ (offset % 256) ∷ []

abbrev pub form : List (List ℕ) → Option Share → List ℕ
form labels None = wire labels
form labels (Some share) = labels_wire share.front ++ pointer_to share.target

-- Room is needed for all labels, also for those that a pointer stands for, and for the closing zero if there is no
-- pointer.
abbrev pub room_for : List (List ℕ) → Option Share → ℕ
room_for labels None = encoded_size labels
room_for labels (Some share) = length (labels_wire labels)

-- ---- what is kept

-- Of the first n suffixes as many as are allowed are kept, if pointers reach to the end of all labels.
abbrev pub kept : Encoder → List (List ℕ) → ℕ → List Candidate
kept v labels n =
    if nat_lt (v.offset + length (labels_wire labels)) pointer_reach
    then take (v.candidate_limit - length v.candidates) (take n (suffixes v.offset labels))
    else []

-- all suffixes, or those that begin before the pointer
abbrev pub newly_kept : Encoder → List (List ℕ) → Option Share → List Candidate
newly_kept v labels None = kept v labels (length labels)
newly_kept v labels (Some share) = kept v labels (length share.front)

-- a name that might have been compressed is counted
abbrev pub counted : Encoder → ℕ
counted v = if compresses v then v.names + 1 else v.names

-- A pointer is the end of the buffer, and no candidate stays from there on.
abbrev pub emitted : Encoder → List (List ℕ) → Option Share → Encoder
emitted v labels None = record v {
  bytes = (written v (wire labels)).bytes;
  offset = (written v (wire labels)).offset;
  candidates = v.candidates ++ newly_kept v labels None;
  names = counted v;
}
emitted v labels (Some share) = record v {
  bytes = so_far v ++ form labels (Some share);
  offset = v.offset + length (form labels (Some share));
  candidates = candidates_before (v.offset + length (labels_wire share.front)) (v.candidates ++ newly_kept v labels (Some share));
  names = counted v;
}

-- A name may need memory only if the buffer grows or candidates are kept.
abbrev pub NeedsMemory : Encoder → List (List ℕ) → Option Share → Type 0
NeedsMemory v labels choice = Grows v (length (form labels choice)) ⊎ (newly_kept v labels choice ≢ [])

-- The labels are written in this way. The call fails if there is no room, or if memory ran out; then the encoder is
-- unchanged, and the name is not counted.
abbrev pub EmitsAs : Encoder → List (List ℕ) → Option Share → Outcome → Encoder → Type 0
EmitsAs v labels choice (Ok done) w = HasRoom v (room_for labels choice) × (w ≡ emitted v labels choice)
EmitsAs v labels choice (Err Memory) w = HasRoom v (room_for labels choice) × NeedsMemory v labels choice × (w ≡ v)
EmitsAs v labels choice (Err (MaxBufferSizeExceeded size)) w =
    (v.max_size < v.offset + room_for labels choice) × (size ≡ v.max_size) × (w ≡ v)
EmitsAs v labels choice (Err error) w = ⊥

-- The labels of a name are written.
pub record EmitsLabels (v : Encoder) (labels : List (List ℕ)) (outcome : Outcome) (w : Encoder) : Type 0 where
  pub are_labels : AreLabels labels
  pub choice : Option Share
  pub chooses : Chooses v labels choice
  pub written_as : EmitsAs v labels choice outcome w

-- the labels as a mode writes them
abbrev pub in_mode : NameEncoding → List (List ℕ) → List (List ℕ)
in_mode UncompressedLowercase ls = lower ls
in_mode mode ls = ls

-- A name is written.
abbrev pub EmitsName : Emits NameValue
EmitsName name v outcome w = EmitsLabels v (in_mode v.encoding name.labels) outcome w
