-- Every candidate stays before the offset.
use Rattle.std.proofs.Common.{◌≡◌, ℕ, ◌+◌, ◌<◌, ◌≤◌, Bool, true, false, nat_lt, List, [], ◌∷◌, ◌++◌, length, Option, Some, None, Result, Ok, Err, refl, sym, subst, if◌then◌else◌, arith, rules, tests}
use Rattle.std.specs.List.{All}
use Rattle.std.proofs.lemmas.List.{length-append}
use Rattle.std.proofs.lemmas.List.Elements.{All-append, All-nil, All-push, All-weaker, filter_passes}
use Rattle.dnw_base.specs.declared.error.ProtoError.{ProtoError}
use Rattle.dnw_base.specs.declared.error.ProtoError.TheVariants.{CharacterDataTooLong, MaxBufferSizeExceeded, Memory}
use Rattle.dnw_base.specs.Names.{labels_wire, wire}
use Rattle.dnw_write_suffixes.specs.Candidates.{Candidate, candidates_before}
use Rattle.dnw_write_suffixes.proofs.CandidateLists.{kept_all}
use Rattle.dnw_write.specs.Encoder.{CandidatesPrecede, Encoder, TakesRoom, takes_candidate, written}
use Rattle.dnw_write.specs.Emitting.{Emits, Outcome}
use Rattle.dnw_write.specs.EmittedName.{EmitsAs, Share, emitted, in_mode, kept, newly_kept, pointer_to}
use Rattle.dnw_write.specs.Marks.{RewindingUndoes}
use Rattle.dnw_write.specs.NameFrames.{within_kept}
use Rattle.dnw_write.specs.CandidateLaws.{FillsPrecede, ItemPrecedes, ItemsPrecede, NamesPrecede, NewPrecede, PlacesPrecede, RewindsPrecede, StoresPrecede, TextsPrecede, TrimsPrecede, WritesPrecede}

abbrev AreBefore : ℕ → List Candidate → Type 0
AreBefore o cs = All (λ c. c.0 < o) cs

less_test : (n o : ℕ) → n < o → nat_lt n o ≡ true
less_test n o less = search (rules, tests)

less_than : (n o : ℕ) → nat_lt n o ≡ true → n < o
less_than n o e = search (rules, tests)

-- if each is before an offset, all are left
all_left : (o : ℕ) (cs : List Candidate) → AreBefore o cs → candidates_before o cs ≡ cs
all_left o cs all =
    kept_all (λ c. nat_lt c.0 o) cs (All-weaker (λ c. c.0 < o) (λ c. nat_lt c.0 o ≡ true) (λ c less. less_test c.0 o less) cs all)

-- those that are left are before it
left_before : (o : ℕ) (cs : List Candidate) → AreBefore o (candidates_before o cs)
left_before o cs =
    All-weaker (λ c. nat_lt c.0 o ≡ true) (λ c. c.0 < o) (λ c test. less_than c.0 o test) (candidates_before o cs) (filter_passes (λ c. nat_lt c.0 o) cs)

later : (o p : ℕ) (cs : List Candidate) → o ≤ p → AreBefore o cs → AreBefore p cs
later o p cs le all = All-weaker (λ c. c.0 < o) (λ c. c.0 < p) (λ c less. omega (arith, le, less)) cs all

-- what kept the frame is undone
pub rewinding_undoes : RewindingUndoes
rewinding_undoes v u outcome precede f =
    rw (f.bytes, f.candidates, all_left v.offset v.candidates precede, f.encoding, f.canonical, f.max_size, f.candidate_limit, f.name_limit) refl

-- ---- writes

pub new_precede : NewPrecede
new_precede bytes offset = All-nil (λ c. c.0 < offset)

room_precede : {A : Type 0} (v w done : Encoder) (n : ℕ) (outcome : Result A ProtoError) → CandidatesPrecede v → CandidatesPrecede done
    → TakesRoom v n done outcome w → CandidatesPrecede w
room_precede v w done n (Ok result) precede there h = subst CandidatesPrecede (sym h.1) there
room_precede v w done n (Err Memory) precede there h = subst CandidatesPrecede (sym h.2) precede
room_precede v w done n (Err (MaxBufferSizeExceeded size)) precede there h = subst CandidatesPrecede (sym h.2) precede
room_precede v w done n (Err error) precede there h = absurd h

pub writes_precede : WritesPrecede
writes_precede bytes v w outcome precede h =
    room_precede v w (written v bytes) (length bytes) outcome precede (later v.offset (v.offset + length bytes) v.candidates (omega arith) precede) h

pub texts_precede : TextsPrecede
texts_precede text v w (Err (CharacterDataTooLong max len)) precede h = subst CandidatesPrecede (sym h.3) precede
texts_precede text v w (Ok tt) precede h = writes_precede (length text ∷ text) v w (Ok tt) precede h.1
texts_precede text v w (Err error) precede h = writes_precede (length text ∷ text) v w (Err error) precede h.1

pub places_precede : PlacesPrecede
places_precede v n precede = later v.offset (v.offset + n) v.candidates (omega arith) precede

pub fills_precede : FillsPrecede
fills_precede v w place n precede (bytes, size, is) = subst CandidatesPrecede (sym is) precede

-- ---- names

emitted_precede : (v : Encoder) (ls : List (List ℕ)) (choice : Option Share) → CandidatesPrecede v → CandidatesPrecede (emitted v ls choice)
emitted_precede v ls None precede =
    let o = v.offset in
    let e = v.offset + length (wire ls) in
    let size = length-append (labels_wire ls) (0 ∷ []) in
    All-append (λ c. c.0 < e) v.candidates (newly_kept v ls None) (later o e v.candidates (omega arith) precede)
    (All-weaker (λ c. (o ≤ c.0) × (c.0 < o + length (labels_wire ls))) (λ c. c.0 < e) (λ c within. omega (arith, size, within.1)) (kept v ls (length ls))
    (within_kept v ls (length ls)))
emitted_precede v ls (Some share) precede =
    let front = labels_wire share.front in
    let cs = v.candidates ++ newly_kept v ls (Some share) in
    later (v.offset + length front) (v.offset + length (front ++ pointer_to share.target)) (candidates_before (v.offset + length front) cs)
    (omega (arith, length-append front (pointer_to share.target))) (left_before (v.offset + length front) cs)

as_precede : (v w : Encoder) (ls : List (List ℕ)) (choice : Option Share) (outcome : Outcome) → CandidatesPrecede v → EmitsAs v ls choice outcome w
    → CandidatesPrecede w
as_precede v w ls choice (Ok tt) precede h = subst CandidatesPrecede (sym h.1) (emitted_precede v ls choice precede)
as_precede v w ls choice (Err Memory) precede h = subst CandidatesPrecede (sym h.2) precede
as_precede v w ls choice (Err (MaxBufferSizeExceeded size)) precede h = subst CandidatesPrecede (sym h.2) precede
as_precede v w ls choice (Err error) precede h = absurd h

pub names_precede : NamesPrecede
names_precede name v w outcome precede h = as_precede v w (in_mode v.encoding name.labels) h.choice outcome precede h.written_as

-- ---- candidates, and items

with_precede : (b : Bool) (v : Encoder) (c : Candidate) → c.0 < v.offset → CandidatesPrecede v
    → CandidatesPrecede (if b then record v { candidates = v.candidates ++ c ∷ [] } else v)
with_precede true v c less precede = All-push (λ d. d.0 < v.offset) v.candidates c precede less
with_precede false v c less precede = precede

pub stores_precede : StoresPrecede
stores_precede c v w (Ok tt) less precede h = subst CandidatesPrecede (sym h) (with_precede (takes_candidate v) v c less precede)
stores_precede c v w (Err Memory) less precede h = subst CandidatesPrecede (sym h.1) precede
stores_precede c v w (Err error) less precede h = absurd h

pub trims_precede : TrimsPrecede
trims_precede v = left_before v.offset v.candidates

pub rewinds_precede : RewindsPrecede
rewinds_precede v mark = left_before mark.offset v.candidates

pub items_precede : {X : Type 0} (emits : Emits X) → ItemsPrecede emits
items_precede emits keeps v w [] precede h = subst CandidatesPrecede (sym h) precede
items_precede emits keeps v w (x ∷ xs) precede (m, one, more) = items_precede emits keeps m w xs (keeps x v m (Ok tt) precede one) more

pub item_precedes : {X : Type 0} (emits : Emits X) → ItemPrecedes emits
item_precedes emits keeps x count v w (Ok tt) precede h = keeps x v w (Ok tt) precede h
item_precedes emits keeps x count v w (Err error) precede (u, cause, one, is, told) =
    subst CandidatesPrecede (sym is) (left_before v.offset v.candidates)
