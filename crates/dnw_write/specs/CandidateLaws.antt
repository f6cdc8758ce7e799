-- Every candidate stays before the offset, as the laws of rewinding and of refused records ask. Each is the clause of a
-- public function, and so proved.
use Rattle.std.specs.Prelude.{ℕ, ◌<◌, List}
use Rattle.dnw_base.specs.Names.{NameValue}
use Rattle.dnw_write_suffixes.specs.Candidates.{Candidate}
use Rattle.dnw_write.specs.Encoder.{CandidatesPrecede, Encoder, Stores, Writes, WritesText, fresh, reserved, trimmed}
use Rattle.dnw_write.specs.Emitting.{EmitsItem, Emits, FillsPlace, InTurn, Outcome}
use Rattle.dnw_write.specs.EmittedName.{EmitsName}
use Rattle.dnw_write.specs.Marks.{MarkValue, rewound}

-- A write keeps every candidate before the offset, whether it succeeds or fails.
abbrev pub KeepsPreceding : (Encoder → Outcome → Encoder → Type 0) → Type 0
KeepsPreceding write = (v w : Encoder) (outcome : Outcome) → CandidatesPrecede v → write v outcome w → CandidatesPrecede w

-- A new encoder has no candidates.
abbrev pub NewPrecede : Type 0
NewPrecede = (bytes : List ℕ) (offset : ℕ) → CandidatesPrecede (fresh bytes offset)

abbrev pub WritesPrecede : Type 0
WritesPrecede = (bytes : List ℕ) → KeepsPreceding (λ v. Writes v bytes)

abbrev pub TextsPrecede : Type 0
TextsPrecede = (text : List ℕ) → KeepsPreceding (λ v. WritesText v text)

abbrev pub PlacesPrecede : Type 0
PlacesPrecede = (v : Encoder) (n : ℕ) → CandidatesPrecede v → CandidatesPrecede (reserved v n)

abbrev pub FillsPrecede : Type 0
FillsPrecede = (v w : Encoder) (place n : ℕ) → CandidatesPrecede v → FillsPlace place n v w → CandidatesPrecede w

abbrev pub NamesPrecede : Type 0
NamesPrecede = (name : NameValue) → KeepsPreceding (EmitsName name)

-- A candidate is stored that is before the offset.
abbrev pub StoresPrecede : Type 0
StoresPrecede = (c : Candidate) (v w : Encoder) (outcome : Outcome) → c.0 < v.offset → CandidatesPrecede v → Stores v c outcome w
    → CandidatesPrecede w

-- Trimming and rewinding remove all others.
abbrev pub TrimsPrecede : Type 0
TrimsPrecede = (v : Encoder) → CandidatesPrecede (trimmed v)

abbrev pub RewindsPrecede : Type 0
RewindsPrecede = (v : Encoder) (mark : MarkValue) → CandidatesPrecede (rewound v mark)

-- Items in turn keep it if each item does, and so does the one that is rolled back.
abbrev pub ItemsPrecede : {X : Type 0} → Emits X → Type 0
ItemsPrecede {X} emits = ((x : X) → KeepsPreceding (emits x)) → (v w : Encoder) (xs : List X) → CandidatesPrecede v → InTurn emits v xs w
    → CandidatesPrecede w

abbrev pub ItemPrecedes : {X : Type 0} → Emits X → Type 0
ItemPrecedes {X} emits = ((x : X) → KeepsPreceding (emits x)) → (x : X) (count : ℕ) → KeepsPreceding (EmitsItem emits x count)
