-- Messages that are written from a list of items at once, and why one is not.
--
-- A list has an octet for each item, and then the item: a question, or a record, as they stand in a message (RFC 1035, sections 4.1.2
-- and 4.1.3). The octet is the number of the sections before the item's own. What may be left out of a message is defined in
-- `dnw_message_writer`, in `Needs.antt`; the caller may say otherwise of a record, by 32 more if the message has to have it, and by 128
-- more if it may be left out. What comes last in the message, `ListEnds.antt` has: it is never left out.
use Rattle.std.specs.Prelude.{◌≡◌, ◌≢◌, ◌<◌, ◌≤◌, ◌⊎◌, ◌==◌, ◌&&◌, ◌||◌, nat_lt, not, ℕ, suc, ◌+◌, ◌-◌, ◌*◌, ◌/◌, ◌%◌, if◌then◌else◌, is_some, Bool, true, false, Some, List, length, slice_get, Result, MatchResult}
use Rattle.std.specs.Int.{w16, from_be_bytes}
use Rattle.dnw_base.specs.declared.error.DecodeError.{DecodeError}
use Rattle.dnw_base.specs.Decoder.{Decoder, HasLeft, next_bytes, advanced}
use Rattle.dnw_name_read.specs.Reading.{TakesName}
use Rattle.dnw_name.specs.Decodable.{StopsSomehow}
use Rattle.dnw_record.specs.Records.{FailsRecord, RecordValue, TakesRecord}
use Rattle.dnw_message_read.specs.Headers.{header_size}
use Rattle.dnw_message_writer.specs.Copying.{AreOfOneSet}
use Rattle.dnw_message_writer.specs.Hints.{slot_of}
use Rattle.dnw_message_writer.specs.Items.{question_form, question_past}
use Rattle.dnw_message_writer.specs.Needs.{are_the_same, halves, with_asked, holding, is_required, is_server, is_uncut, most_pairs, purpose_by}
use Rattle.dnw_message_writer.specs.Replies.{most_code, takes_records}
use Rattle.dnw_message_writer.specs.Sections.{rank}
use Rattle.dnw_message_writer.specs.Sets.{cut_off}
use Rattle.dnw_message_writer.specs.States.{AddsItem, BeginsMessage, count_in_header}
use Rattle.dnw_message_writer.specs.declared.needs.Purpose.{Purpose}
use Rattle.dnw_message_writer.specs.declared.section.Section.{Section}
use Rattle.dnw_message_writer.specs.declared.section.Section.TheVariants as Sections
use Rattle.dnw_message_writer.specs.declared.state.WriterState.{WriterState}
use Rattle.dnw_message_writer.specs.declared.list.ListError.{ListError}
use Rattle.dnw_message_writer.specs.declared.list.ListError.TheVariants as why
use Rattle.dnw_message_writer.specs.ListEnds.{AddsEnds, AddsListed, FailsToAddEnds, FailsToAddListed, has_such, held_by, is_put_last, no_ends, of_second, with_end}
use Rattle.dnw_message_writer.specs.ListResults.{FailsToAddForm, StaysAsItWas, at_offset, is_cut}
use Rattle.dnw_message_writer.specs.declared.list.ends.Ends.{Ends}
use Rattle.dnw_message_writer.specs.declared.list.Written.{Written}
use Rattle.dnw_message_writer.specs.declared.list.halves.There.{There}
use Rattle.dnw_message_writer.specs.declared.list.writing.LeftOut.{LeftOut}

-- ---- items

-- the octet before a question
abbrev pub question_octet : ℕ
question_octet = 0

-- The octet is before a record of a section.
abbrev pub IsOctetOf : ℕ → Section → Type 0
IsOctetOf octet s = (1 ≤ rank s) × ((octet ≡ rank s) ⊎ (octet ≡ rank s + 32) ⊎ (octet ≡ rank s + 128))

-- The message has to have the record: by the word of the caller, or else by what the message is for. Whether a server of the section
-- is left out before it.
abbrev pub has_to_be_there : Purpose → Section → ℕ → Bool → RecordValue → Bool
has_to_be_there needs s octet out x = if nat_lt octet 32 then is_required s needs out x else nat_lt octet 128

-- The octet is before no item.
abbrev pub IsNoOctet : ℕ → Type 0
IsNoOctet octet = (3 < octet) × ((octet < 33) ⊎ (35 < octet)) × ((octet < 129) ⊎ (131 < octet))

-- the place of an item in the order of a list: that of its section
abbrev pub place_of : ℕ → ℕ
place_of octet = octet % 4

-- The next item begins with this octet.
abbrev pub BeginsWithOctet : Decoder → ℕ → Type 0
BeginsWithOctet d octet = slice_get d.bytes d.index ≡ Some octet

-- A question is next: a name, two octets of type and two of class.
pub record TakesQuestion (d : Decoder) (name : List (List ℕ)) (query_type class : ℕ) (after : Decoder) : Type 0 where
  pub marked : BeginsWithOctet d question_octet
  pub middle : Decoder
  pub pointers : ℕ
  pub named : TakesName (advanced d 1) middle name pointers
  pub left : HasLeft middle 4
  pub type_is : query_type ≡ from_be_bytes w16 (next_bytes middle 2)
  pub class_is : class ≡ from_be_bytes w16 (next_bytes (advanced middle 2) 2)
  pub after_is : after ≡ advanced middle 4

-- A record is next, after this octet.
abbrev pub TakesListed : Decoder → ℕ → RecordValue → Decoder → Type 0
TakesListed d octet x after = BeginsWithOctet d octet × TakesRecord (advanced d 1) x after

-- No record is next after its octet.
abbrev pub LacksListed : Decoder → Type 0
LacksListed d = (error : DecodeError) × FailsRecord (advanced d 1) error

-- No item is next: its octet is none, its name or its record is none, or its type and class are not all there.
abbrev pub IsNoItem : Decoder → Type 0
IsNoItem d =
    ((octet : ℕ) × BeginsWithOctet d octet × IsNoOctet octet)
    ⊎ (BeginsWithOctet d question_octet × (error : DecodeError) × StopsSomehow (advanced d 1) error)
    ⊎ (BeginsWithOctet d question_octet × (name : List (List ℕ)) × (middle : Decoder) × (k : ℕ) × TakesName (advanced d 1) middle name k
    × (HasLeft middle 4 → ⊥))
    ⊎ ((octet : ℕ) × BeginsWithOctet d octet × (octet ≢ question_octet) × LacksListed d)

-- ---- the order of items, and what comes last

-- A record of a section is one more of its message: it comes last, as the first of its kind, or it is one of its section.
abbrev pub ScansRecord : ℕ → Section → RecordValue → Ends → Purpose → Ends → Purpose → Type 0
ScansRecord octet s x held before ends needs =
    ((is_put_last octet x ≡ true) × (has_such x held ≡ false) × (ends ≡ with_end x held) × (needs ≡ before))
    ⊎ ((is_put_last octet x ≡ false) × (ends ≡ held) × (needs ≡ holding s x before))

-- The item that is next, after this octet, is one more of its message.
abbrev pub ScansItem : ℕ → Decoder → Ends → Purpose → Decoder → Ends → Purpose → Type 0
ScansItem octet d held before after ends needs =
    ((octet ≡ question_octet) × (name : List (List ℕ)) × (query_type : ℕ) × (class : ℕ) × TakesQuestion d name query_type class after
    × (ends ≡ held) × (needs ≡ with_asked query_type before))
    ⊎ ((s : Section) × IsOctetOf octet s × (x : RecordValue) × TakesListed d octet x after × ScansRecord octet s x held before ends needs)

-- No item is next, or a second one of those that come last.
abbrev pub FailsToScan : ℕ → Decoder → Ends → ListError → Type 0
FailsToScan octet d held failure =
    (IsNoItem d × (failure ≡ why.BadItem))
    ⊎ ((x : RecordValue) × (after : Decoder) × TakesListed d octet x after × (is_put_last octet x ≡ true) × (has_such x held ≡ true)
    × (failure ≡ of_second x))

-- The items up to a decoder are in order, the last of them has this place, these come last, and this is what the message is for so far.
pub data ScansTo (list : List ℕ) (flags : ℕ) : Decoder → ℕ → Ends → Purpose → Type 0 where
  at_start : ScansTo list flags (at_offset list 0) 0 no_ends (purpose_by flags)
  more_items : (d after : Decoder) (place octet : ℕ) (held ends : Ends) (before needs : Purpose)
      → ScansTo list flags d place held before → place ≤ place_of octet → ScansItem octet d held before after ends needs
      → ScansTo list flags after (place_of octet) ends needs

abbrev pub ScansList : List ℕ → ℕ → Ends → Purpose → Type 0
ScansList list flags ends needs = (d : Decoder) × (place : ℕ) × ScansTo list flags d place ends needs × (d.index ≡ length list)

-- After the items up to a decoder no item is next, or a second one of those that come last, or one that should be before them.
abbrev pub IsBadList : List ℕ → ℕ → ListError → Type 0
IsBadList list flags failure =
    (d : Decoder) × (place : ℕ) × (ends : Ends) × (needs : Purpose) × (octet : ℕ) × ScansTo list flags d place ends needs
    × (FailsToScan octet d ends failure ⊎ (BeginsWithOctet d octet × (place_of octet < place) × (failure ≡ why.BadItem)))

-- ---- sets

-- A record after this octet goes with the first one of its set, as one that does not come last.
abbrev pub IsOfRun : ℕ → RecordValue → RecordValue → Type 0
IsOfRun octet first x = (is_put_last octet x ≡ false) × AreOfOneSet first x

-- No record is next with this octet that is of the set of this one.
abbrev pub IsNoneOfSet : Decoder → ℕ → RecordValue → Type 0
IsNoneOfSet d octet first = (x : RecordValue) (after : Decoder) → TakesListed d octet x after → IsOfRun octet first x → ⊥

-- From the item at the decoder start on, records with the octet and of the set of this one are added in turn.
pub data AddsRun (octet : ℕ) (s : Section) (first : RecordValue) (start : Decoder) (w : WriterState) (m : List ℕ) : Decoder → WriterState → List ℕ → Type 0 where
  none : AddsRun octet s first start w m start w m
  more : (d after : Decoder) (v u : WriterState) (n o : List ℕ) (x : RecordValue)
      → AddsRun octet s first start w m d v n → TakesListed d octet x after → IsOfRun octet first x → AddsListed s x v n u o
      → AddsRun octet s first start w m after u o

-- The records of the set that is next, which do not come last, are added: all that follow with its octet, owner, type and class (RFC 2181, section 5).
pub record AddsRecords (d : Decoder) (octet : ℕ) (s : Section) (w : WriterState) (m : List ℕ) (after : Decoder) (v : WriterState) (n : List ℕ) : Type 0 where
  pub x : RecordValue
  pub next : Decoder
  pub first : TakesListed d octet x next
  pub plain : is_put_last octet x ≡ false
  pub run : AddsRun octet s x d w m after v n
  pub others : IsNoneOfSet after octet x

-- One of them is not, for this reason.
pub record FailsToAddRecords (d : Decoder) (octet : ℕ) (s : Section) (w : WriterState) (m : List ℕ) (failure : ListError) : Type 0 where
  pub x : RecordValue
  pub next : Decoder
  pub first : TakesListed d octet x next
  pub at : Decoder
  pub v : WriterState
  pub between : List ℕ
  pub run : AddsRun octet s x d w m at v between
  pub y : RecordValue
  pub after : Decoder
  pub takes : TakesListed at octet y after
  pub same : IsOfRun octet x y
  pub fails : FailsToAddListed s y v between failure

-- ---- messages

-- How far the writing of a list has come: the items that are left, what is written, and what is left out.
pub record Progress : Type 0 where
  pub items : Decoder
  pub state : WriterState
  pub message : List ℕ
  pub left : LeftOut

-- the record of these
abbrev pub progress : Decoder → WriterState → List ℕ → LeftOut → Progress
progress d w m left = record { items = d; state = w; message = m; left = left }

-- A server of the section is left out so far.
abbrev pub is_server_out : Section → LeftOut → Bool
is_server_out s left = (left.closed == rank s) && left.servers

-- the records of a section that are there: the offset in the list at which they begin, and how many there are
abbrev pub what_is_there : Section → Progress → There
what_is_there s p = record { start = if p.state.rank == rank s then p.left.start else p.items.index; count = count_in_header s p.message }

-- how many pairs of records may be compared once more, to see if half of a set is there
abbrev pub pairs_left : Section → LeftOut → ℕ
pairs_left s left = if left.closed == rank s then left.pairs else most_pairs

-- what is left out, with a record of a section too: something is missing if it has to be there, or if half of its set is
abbrev pub left_with : Purpose → Section → ℕ → There → Bool → RecordValue → LeftOut → LeftOut
left_with needs s octet there half x left = record {
  closed = rank s;
  missing = left.missing || (has_to_be_there needs s octet (is_server_out s left) x || half);
  servers = is_server_out s left || is_server x;
  pairs = pairs_left s left - there.count;
  start = there.start;
}

-- No record is there.
abbrev pub HasNoListed : Decoder → Type 0
HasNoListed d = (x : RecordValue) (after : Decoder) → TakesRecord (advanced d 1) x after → ⊥

-- One of so many records of the list halves the set of another that is left out, and none of them is the same; or no record is there.
-- Whether one does before them. Those that come last do not count.
pub data IsHalfListed (y : RecordValue) : ℕ → Decoder → Bool → Bool → Type 0 where
  over : (d : Decoder) (half : Bool) → IsHalfListed y 0 d half half
  comes_last : (n octet : ℕ) (x : RecordValue) (d after : Decoder) (before half : Bool) → TakesListed d octet x after → is_put_last octet x ≡ true
      → IsHalfListed y n after before half → IsHalfListed y n d before half
  the_same : (n octet : ℕ) (x : RecordValue) (d after : Decoder) (before : Bool) → TakesListed d octet x after → is_put_last octet x ≡ false
      → are_the_same x y ≡ true → IsHalfListed y (suc n) d before false
  another : (n octet : ℕ) (x : RecordValue) (d after : Decoder) (before half : Bool) → TakesListed d octet x after → is_put_last octet x ≡ false
      → are_the_same x y ≡ false → IsHalfListed y n after (before || halves x y) half → IsHalfListed y (suc n) d before half
  no_record : (n : ℕ) (d : Decoder) (before : Bool) → HasNoListed d → IsHalfListed y (suc n) d before true

-- Half of a set may be there, if the record is left out. So it is if more pairs would have to be compared than may be.
abbrev pub IsHalved : ℕ → There → List ℕ → RecordValue → Bool → Type 0
IsHalved pairs there list x half =
    ((pairs < there.count) × (half ≡ true)) ⊎ ((there.count ≤ pairs) × IsHalfListed x there.count (at_offset list there.start) false half)

-- A record is left out.
abbrev pub IsLeftOut : Purpose → ℕ → Section → Progress → RecordValue → Progress → Type 0
IsLeftOut needs octet s p x q =
    (half : Bool) × IsHalved (pairs_left s p.left) (what_is_there s p) p.items.bytes x half
    × (q.left ≡ left_with needs s octet (what_is_there s p) half x p.left)

-- No record that comes last is next after this octet.
abbrev pub IsNoEnd : ℕ → Decoder → Type 0
IsNoEnd octet d = (x : RecordValue) (after : Decoder) → TakesListed d octet x after → is_put_last octet x ≡ false

-- The message has no records but those that come last: it is a reply to a request that was not understood or taken, as its code says.
abbrev pub is_bare : Bool → ℕ → Bool
is_bare is_reply code = is_reply && not (takes_records code)

-- A record that comes last is passed, if one is next, or any record of a bare message. Whether one is.
abbrev pub PassesEnd : Bool → ℕ → Decoder → Decoder → Bool → Type 0
PassesEnd bare octet d after true = (x : RecordValue) × TakesListed d octet x after × ((bare || is_put_last octet x) ≡ true)
PassesEnd bare octet d after false = (after ≡ d) × IsNoEnd octet d

-- The next items of a list are written, or left out: a question, or the records of a set; what comes last is passed, and each
-- record of a bare message. Once a set has no room, the message is unchanged, its first record is left out, and so are the later records
-- of its section. Nothing is left out of a message that is never cut.
pub data WritesNext (bare : Bool) (needs : Purpose) (p q : Progress) : Type 0 where
  question : (name : List (List ℕ)) (query_type class : ℕ) → TakesQuestion p.items name query_type class q.items
      → AddsItem Sections.Queries (question_form slot_of name query_type class) p.state p.message q.state q.message
      → q.left ≡ p.left → WritesNext bare needs p q
  comes_last : (octet : ℕ) → PassesEnd bare octet p.items q.items true → q.state ≡ p.state → q.message ≡ p.message → q.left ≡ p.left
      → WritesNext bare needs p q
  set : (octet : ℕ) (s : Section) → IsOctetOf octet s → rank s ≢ p.left.closed
      → AddsRecords p.items octet s p.state p.message q.items q.state q.message
      → q.left ≡ record p.left { start = (what_is_there s p).start } → WritesNext bare needs p q
  no_room : (octet : ℕ) (s : Section) (x : RecordValue) → IsOctetOf octet s → rank s ≢ p.left.closed
      → FailsToAddRecords p.items octet s p.state p.message why.TooLong → is_uncut needs ≡ false
      → StaysAsItWas p.state p.message q.state q.message → TakesListed p.items octet x q.items
      → IsLeftOut needs octet s p x q → WritesNext bare needs p q
  left_out : (octet : ℕ) (s : Section) (x : RecordValue) → IsOctetOf octet s → rank s ≡ p.left.closed
      → TakesListed p.items octet x q.items → is_put_last octet x ≡ false → q.state ≡ p.state → q.message ≡ p.message
      → IsLeftOut needs octet s p x q → WritesNext bare needs p q

-- They are not, for this reason, and then nothing is.
abbrev pub FailsToWriteNext : Purpose → Progress → ListError → Type 0
FailsToWriteNext needs p failure =
    (IsNoItem p.items × (failure ≡ why.BadItem))
    ⊎ ((name : List (List ℕ)) × (query_type : ℕ) × (class : ℕ) × (after : Decoder) × TakesQuestion p.items name query_type class after
    × FailsToAddForm Sections.Queries (question_past slot_of name) p.state p.message failure)
    ⊎ ((octet : ℕ) × (s : Section) × IsOctetOf octet s × (rank s ≢ p.left.closed)
    × FailsToAddRecords p.items octet s p.state p.message failure × (failure ≡ why.TooLong → is_uncut needs ≡ true))

-- Items are written one after another from the start of a list.
pub data WritesFrom (bare : Bool) (needs : Purpose) (first : Progress) : Progress → Type 0 where
  here : WritesFrom bare needs first first
  further : (p q : Progress) → WritesFrom bare needs first p → WritesNext bare needs p q → WritesFrom bare needs first q

abbrev pub nothing_left_out : LeftOut
nothing_left_out = record { closed = 0; missing = false; servers = false; pairs = 0; start = 0 }

abbrev pub progress_at : List ℕ → WriterState → List ℕ → Progress
progress_at list w m = progress (at_offset list 0) w m nothing_left_out

-- the flags with the low four bits of a response code (RFC 1035, section 4.1.1)
abbrev pub with_code : ℕ → ℕ → ℕ
with_code flags code = flags / 16 * 16 + code % 16

-- The message of a list begins: with its header, and the octets of what comes last held back. A response code of more than four bits needs
-- EDNS (RFC 6891, section 6.1.3).
abbrev pub Starts : List ℕ → ℕ → ℕ → ℕ → ℕ → List ℕ → Ends → Purpose → Progress → Type 0
Starts list max_size id flags code old ends needs p =
    ScansList list flags ends needs × (code ≤ most_code (is_some ends.opt))
    × (w : WriterState) × (m : List ℕ) × BeginsMessage id (with_code flags code) max_size old w m
    × (p ≡ progress_at list (record w { reserved = held_by ends }) m)

-- It does not: the buffer or the maximum is too short for a header.
abbrev pub FailsToBegin : ℕ → List ℕ → ListError → Type 0
FailsToBegin max_size old failure =
    ((length old < header_size) × (failure ≡ why.NoRoom))
    ⊎ ((header_size ≤ length old) × (max_size < header_size) × (failure ≡ why.TooLong))

-- All items are written or left out, and what comes last is written. If something is missing, TC is set.
abbrev pub WritesItems : List ℕ → ℕ → ℕ → ℕ → ℕ → Bool → ℕ → List ℕ → List ℕ → Written → Type 0
WritesItems list max_size id flags code is_reply block old new written =
    (ends : Ends) × (needs : Purpose) × (first : Progress) × (p : Progress)
    × Starts list max_size id flags code old ends needs first × WritesFrom (is_bare is_reply code) needs first p × (p.items.index ≡ length list)
    × (w : WriterState) × (m : List ℕ) × AddsEnds code block ends p.state p.message w m
    × (new ≡ (if p.left.missing then cut_off m else m))
    × (written ≡ record { len = w.end; truncated = is_cut new })

-- The list is none, or the message has no place for the response code, or the buffer or the maximum is too short for a header, or an item
-- fails.
abbrev pub FailsToWriteList : List ℕ → ℕ → ℕ → ℕ → ℕ → Bool → ℕ → List ℕ → ListError → Type 0
FailsToWriteList list max_size id flags code is_reply block old failure =
    IsBadList list flags failure
    ⊎ ((ends : Ends) × (needs : Purpose) × ScansList list flags ends needs × (most_code (is_some ends.opt) < code) × (failure ≡ why.BadItem))
    ⊎ FailsToBegin max_size old failure
    ⊎ ((ends : Ends) × (needs : Purpose) × (first : Progress) × (p : Progress) × Starts list max_size id flags code old ends needs first
    × WritesFrom (is_bare is_reply code) needs first p
    × (FailsToWriteNext needs p failure ⊎ ((p.items.index ≡ length list) × FailsToAddEnds code block ends p.state p.message failure)))

-- A message is written, or it is not for such a reason.
abbrev pub WritesListOr : List ℕ → ℕ → ℕ → ℕ → ℕ → Bool → ℕ → List ℕ → List ℕ → Result Written ListError → Type 0
WritesListOr list max_size id flags code is_reply block old new result =
    MatchResult result (WritesItems list max_size id flags code is_reply block old new)
    (FailsToWriteList list max_size id flags code is_reply block old)
