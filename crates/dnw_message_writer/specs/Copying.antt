-- Records and messages that were read, written again (RFC 2181, sections 5 and 9; RFC 6891, section 6.1.1).
use Rattle.std.specs.Prelude.{◌≡◌, ◌≢◌, ℕ, None, Some, ◌+◌, ◌<◌, ◌^◌, ◌==◌, ◌&&◌, ◌||◌, ◌⊎◌, nat_le, not, if◌then◌else◌, Bool, true, false, List, [], ◌∷◌, ◌++◌, drop, filter, length, take}
use Rattle.std.specs.List.{AllByRecursion}
use Rattle.dnw_base.specs.DnsClasses.{class_code}
use Rattle.dnw_base.specs.Limits.{max_pointers}
use Rattle.dnw_base.specs.Names.{AreLabels, encoded_size, lower}
use Rattle.dnw_base.specs.RecordTypes.{type_code}
use Rattle.dnw_base.specs.TypeCodes.{opt_code, sig_code, tsig_code}
use Rattle.dnw_data.specs.declared.fields.FieldError.{FieldError}
use Rattle.dnw_record.specs.DataCopies.{Copies, FailsToCopy, data_start, record_kinds}
use Rattle.dnw_record.specs.DataPieces.{IsData}
use Rattle.dnw_record.specs.DataPointers.{TakesAllPointers}
use Rattle.dnw_record.specs.Records.{RecordValue, data_octets}
use Rattle.dnw_record.specs.declared.rdata.RDataError.TheVariants.{Field}
use Rattle.dnw_message_read.specs.DataPointers.{records_of}
use Rattle.dnw_message_read.specs.Headers.{flags_of}
use Rattle.dnw_message_read.specs.Edns.{FailsEdns}
use Rattle.dnw_message_read.specs.Messages.{MessageValue, QueryValue}
use Rattle.dnw_message_read.specs.declared.edns.EdnsError.{EdnsError}
use Rattle.dnw_message_writer.specs.Hints.{slot_of}
use Rattle.dnw_message_writer.specs.Items.{IsQuestion, ItemForm, ItemPast, question_past}
use Rattle.dnw_message_writer.specs.Listed.{data_form, data_past}
use Rattle.dnw_message_writer.specs.Needs.{has_half, has_required, is_server, is_uncut, purpose_of, signs_servers}
use Rattle.dnw_message_writer.specs.Replies.{field_at}
use Rattle.dnw_message_writer.specs.Sets.{AddsSet, cut_off}
use Rattle.dnw_message_writer.specs.Standing.{first_item}
use Rattle.dnw_message_writer.specs.States.{BeginsMessage, FailsToAdd, count_in_header, for_last, more_octets}
use Rattle.dnw_message_writer.specs.declared.copying.CopyError.{CopyError}
use Rattle.dnw_message_writer.specs.declared.copying.CopyError.TheVariants as errors
use Rattle.dnw_message_writer.specs.declared.section.Section.{Section}
use Rattle.dnw_message_writer.specs.declared.section.Section.TheVariants.{Queries, Answers, Authorities, Additionals}
use Rattle.dnw_message_writer.specs.declared.section.WriteError.{WriteError}
use Rattle.dnw_message_writer.specs.declared.section.WriteError.TheVariants.{NoRoom}
use Rattle.dnw_message_writer.specs.declared.state.WriterState.{WriterState}

-- ---- items

-- The codes and the time to live of a record fit their fields, as those of each record that is read do, and its owner is a name.
abbrev pub CopyFits : RecordValue → Type 0
CopyFits x = (type_code x.record_type < 2 ^ 16) × (class_code x.class < 2 ^ 16) × (x.ttl < 2 ^ 32) × AreLabels x.owner

-- How a record of a message is written: with its owner, its codes and its time to live, and with its data, in which every name is
-- whole before it is compressed.
abbrev pub copied_form : RecordValue → ItemForm
copied_form x = record {
  is_opt = type_code x.record_type == opt_code;
  writes = λ b near hints octets after.
      CopyFits x × (own : List ℕ) × Copies (record_kinds x) (data_start x) own
      × (data_form x.owner (type_code x.record_type) (class_code x.class) x.ttl own).writes b near hints octets after;
}

abbrev pub copied_past : RecordValue → ItemPast
copied_past x = record {
  is_opt = type_code x.record_type == opt_code;
  goes = λ limit b near hints.
      (own : List ℕ) × Copies (record_kinds x) (data_start x) own
      × (data_past x.owner (type_code x.record_type) (class_code x.class) x.ttl own).goes limit b near hints;
}

-- The data of a record stand in their message with every name whole: none has a pointer.
abbrev pub StandWhole : RecordValue → Type 0
StandWhole x = IsData (record_kinds x) (drop (data_start x).index (data_start x).bytes)

-- Why a record of a message is not added: its data are none of its class and type, or it has no room, or memory ran out, which is not
-- needed if its data stand whole.
abbrev pub FailsToAddCopy : Section → RecordValue → WriterState → List ℕ → CopyError → Type 0
FailsToAddCopy s x w m (errors.Data offset error) =
    (offset ≡ x.start) × FailsToCopy (record_kinds x) (data_start x) (Field error)
FailsToAddCopy s x w m (errors.Edns error) = ⊥
FailsToAddCopy s x w m (errors.Write error) = FailsToAdd s (copied_past x) w m error
FailsToAddCopy s x w m errors.TooManyPointers = ⊥
FailsToAddCopy s x w m errors.Memory = StandWhole x → ⊥

-- So is a question.
abbrev pub query_form : QueryValue → ItemForm
query_form q = record {
  is_opt = false;
  writes = λ b near hints octets after.
      (type_code q.query_type < 2 ^ 16) × (class_code q.query_class < 2 ^ 16) × AreLabels q.name
      × IsQuestion slot_of b near hints q.name (type_code q.query_type) (class_code q.query_class) octets after;
}

-- ---- sets

-- The records have the same type, or the first is a server and the other signs servers: these are written together or left out together,
-- since servers that are there have to be signed (RFC 4035, section 3.1.1).
abbrev pub AreOfOneKind : RecordValue → RecordValue → Type 0
AreOfOneKind x y = (type_code x.record_type ≡ type_code y.record_type) ⊎ ((is_server x ≡ true) × (signs_servers y ≡ true))

-- They are of one set: they have the same class, and the same owner but for case, too (RFC 2181, section 5).
abbrev pub AreOfOneSet : RecordValue → RecordValue → Type 0
AreOfOneSet x y = AreOfOneKind x y × (class_code x.class ≡ class_code y.class) × (lower x.owner ≡ lower y.owner)

-- There are records, all of one set.
abbrev pub AreASet : List RecordValue → Type 0
AreASet [] = ⊥
AreASet (x ∷ xs) = AllByRecursion (AreOfOneSet x) xs

-- The next record is of another set, if there is one.
abbrev pub EndsBefore : List RecordValue → List RecordValue → Type 0
EndsBefore [] later = ⊥
EndsBefore (x ∷ xs) [] = Unit {0}
EndsBefore (x ∷ xs) (y ∷ ys) = AreOfOneSet x y → ⊥

-- Some items are added in turn, and the one after them is not, for this reason.
pub record StopsAmong {D : Type 0} (s : Section) (form : D → ItemForm) (fails_for : D → WriterState → List ℕ → CopyError → Type 0) (xs : List D)
    (w : WriterState) (m : List ℕ) (e : CopyError) : Type 0 where
  pub done : List D
  pub next : D
  pub left : List D
  pub are : xs ≡ done ++ next ∷ left
  pub state : WriterState
  pub message : List ℕ
  pub adds : AddsSet s form done w m state message
  pub fails : fails_for next state message e

-- So it is with records of a set.
abbrev pub StopsInSet : Section → List RecordValue → WriterState → List ℕ → CopyError → Type 0
StopsInSet s xs w m e =
    (stop : StopsAmong s copied_form (FailsToAddCopy s) xs w m e) × AreASet (stop.done ++ stop.next ∷ [])

-- Records are added set by set, each whole, up to the first that has no room: nothing of it is added, nor of those after it.
-- Whether all are.
pub data CopiesSets (s : Section) : List RecordValue → WriterState → List ℕ → WriterState → List ℕ → Bool → Type 0 where
  none_left : (w : WriterState) (m : List ℕ) → CopiesSets s [] w m w m true
  one_set : (set others : List RecordValue) (w v u : WriterState) (m n o : List ℕ) (all : Bool) → AreASet set → EndsBefore set others
      → AddsSet s copied_form set w m v n → CopiesSets s others v n u o all → CopiesSets s (set ++ others) w m u o all
  no_room : (xs : List RecordValue) (w : WriterState) (m n : List ℕ) → StopsInSet s xs w m (errors.Write NoRoom) → take w.end n ≡ take w.end m
      → CopiesSets s xs w m w n false

-- After some sets a record is not added, for another reason.
pub data FailsSets (s : Section) (e : CopyError) : List RecordValue → WriterState → List ℕ → Type 0 where
  after_set : (set others : List RecordValue) (w v : WriterState) (m n : List ℕ) → AreASet set → EndsBefore set others
      → AddsSet s copied_form set w m v n → FailsSets s e others v n → FailsSets s e (set ++ others) w m
  at_once : (xs : List RecordValue) (w : WriterState) (m : List ℕ) → e ≢ errors.Write NoRoom → StopsInSet s xs w m e → FailsSets s e xs w m

-- ---- messages

-- The data of a SIG begin with the type that it covers. If that is 0, the SIG covers no records: it is a SIG(0) (RFC 2931, section 3).
abbrev pub covers_no_type : List ℕ → Bool
covers_no_type octets = nat_le 2 (length octets) && (field_at octets 0 == 0)

-- a signature of a message: TSIG, or SIG(0)
abbrev pub signs_message : RecordValue → Bool
signs_message x = (type_code x.record_type == tsig_code) || ((type_code x.record_type == sig_code) && covers_no_type (data_octets x))

-- A record that is held back for, and comes after the others: OPT, or a signature of the message.
abbrev pub is_held : RecordValue → Bool
is_held x = (type_code x.record_type == opt_code) || signs_message x

abbrev pub held_in : List RecordValue → List RecordValue
held_in xs = filter is_held xs

-- the records of a section that are added set by set
abbrev pub sets_of : Section → List RecordValue → List RecordValue
sets_of Additionals xs = filter (λ x. not (is_held x)) xs
sets_of section xs = xs

-- how many octets a record with these data has, if its owner is whole
abbrev pub size_with : RecordValue → List ℕ → ℕ
size_with x own = more_octets (encoded_size x.owner + 10) (length own)

-- A record is written with so many octets if every name is whole. If its data are no fields of its class and type, they count as they
-- stand.
abbrev pub IsWholeSize : RecordValue → ℕ → Type 0
IsWholeSize x n =
    ((own : List ℕ) × Copies (record_kinds x) (data_start x) own × (n ≡ size_with x own))
    ⊎ ((error : FieldError) × FailsToCopy (record_kinds x) (data_start x) (Field error) × (n ≡ size_with x (data_octets x)))

-- So many octets are held back for records that come last, after others: as many as they are written with.
abbrev pub HoldsFor : ℕ → List RecordValue → ℕ → Type 0
HoldsFor n [] held = held ≡ n
HoldsFor n (x ∷ xs) held = (size : ℕ) × IsWholeSize x size × HoldsFor (more_octets n size) xs held

-- It is not found how many: memory ran out, which is not needed if the data of all of them stand whole.
abbrev pub FailsToHold : List RecordValue → CopyError → Type 0
FailsToHold xs e = (e ≡ errors.Memory) × (AllByRecursion StandWhole xs → ⊥)

-- the records of a section that are there: as many as the message has
abbrev pub there_of : Section → List RecordValue → List ℕ → List RecordValue
there_of s xs m = take (count_in_header s m) (sets_of s xs)

-- those that are left out
abbrev pub left_out_of : Section → List RecordValue → List ℕ → List RecordValue
left_out_of s xs m = drop (count_in_header s m) (sets_of s xs)

-- the records of a section
abbrev pub section_records : Section → MessageValue → List RecordValue
section_records Queries x = []
section_records Answers x = x.answers
section_records Authorities x = x.authorities
section_records Additionals x = x.additionals

-- Of a section something is missing: a record that it has to have, or half of a set.
abbrev pub lacks_record_of : Section → MessageValue → List ℕ → Bool
lacks_record_of s x m = has_required s (purpose_of x) false (left_out_of s (section_records s x) m)

abbrev pub lacks_half_of : Section → MessageValue → List ℕ → Bool
lacks_half_of s x m = has_half (count_in_header s m) (there_of s (section_records s x) m) (left_out_of s (section_records s x) m)

abbrev pub lacks_of : Section → MessageValue → List ℕ → Bool
lacks_of s x m = lacks_record_of s x m || lacks_half_of s x m

abbrev pub lacks_some : MessageValue → List ℕ → Bool
lacks_some x m = lacks_of Answers x m || (lacks_of Authorities x m || lacks_of Additionals x m)

-- All records are added, or some are left out, as may be of this message. Whether something is missing that it has to have.
abbrev pub Misses : MessageValue → List ℕ → Bool → Bool → Type 0
Misses x m true missing = missing ≡ false
Misses x m false missing = (is_uncut (purpose_of x) ≡ false) × (missing ≡ lacks_some x m)

-- Not all are, of a message that is never cut.
abbrev pub MayNotMiss : MessageValue → Bool → CopyError → Type 0
MayNotMiss x all e = (all ≡ false) × (is_uncut (purpose_of x) ≡ true) × (e ≡ errors.Write NoRoom)

-- A message begins with the header and the questions of another, and holds back the octets of the records that come last.
pub record CopiesQuestions (x : MessageValue) (max_size : ℕ) (old : List ℕ) (w : WriterState) (m : List ℕ) : Type 0 where
  pub first : WriterState
  pub begun : List ℕ
  pub id_fits : x.header.metadata.id < 2 ^ 16
  pub flags_fit : flags_of x.header.metadata < 2 ^ 16
  pub begins : BeginsMessage x.header.metadata.id (flags_of x.header.metadata) max_size old first begun
  pub held : ℕ
  pub holds : HoldsFor 0 (held_in x.additionals) held
  pub adds : AddsSet Queries query_form x.queries (record first { reserved = held }) begun w m

-- Its records are added, but for those that come last: section by section, and set by set. Whether one is missing that it has to have.
pub record CopiesSections (x : MessageValue) (w : WriterState) (m : List ℕ) (v : WriterState) (n : List ℕ) (missing : Bool) : Type 0 where
  pub all_answers : Bool
  pub answered : WriterState
  pub answered_by : List ℕ
  pub answers : CopiesSets Answers x.answers w m answered answered_by all_answers
  pub all_authorities : Bool
  pub led : WriterState
  pub led_by : List ℕ
  pub authorities : CopiesSets Authorities x.authorities answered answered_by led led_by all_authorities
  pub all_additionals : Bool
  pub additionals : CopiesSets Additionals (sets_of Additionals x.additionals) led led_by v n all_additionals
  pub missing_is : Misses x n (all_answers && (all_authorities && all_additionals)) missing

-- The records that come last are added, in the octets that were held back: no pointer stands for a name of the message before them.
abbrev pub CopiesHeld : MessageValue → WriterState → List ℕ → WriterState → List ℕ → Type 0
CopiesHeld x w m v n = AddsSet Additionals copied_form (held_in x.additionals) (for_last w.reserved w) m v n

-- The names in the data of its records follow so many pointers at most.
abbrev pub FollowsFew : MessageValue → Type 0
FollowsFew x = (left : ℕ) × TakesAllPointers (records_of x) max_pointers (Some left)

-- A message is written again, in at most so many octets, but for the records that come last. Whether a record is missing that it has to
-- have.
pub record CopiesBody (x : MessageValue) (max_size : ℕ) (old : List ℕ) (filled : WriterState) (filled_by : List ℕ) (missing : Bool) : Type 0 where
  pub few : FollowsFew x
  pub asked : WriterState
  pub asked_by : List ℕ
  pub questions : CopiesQuestions x max_size old asked asked_by
  pub sections : CopiesSections x asked asked_by filled filled_by missing

-- It is written again. If a record is missing that it has to have, TC is set.
pub record CopiesMessage (x : MessageValue) (max_size : ℕ) (old : List ℕ) (w : WriterState) (new : List ℕ) : Type 0 where
  pub filled : WriterState
  pub filled_by : List ℕ
  pub missing : Bool
  pub body : CopiesBody x max_size old filled filled_by missing
  pub whole : List ℕ
  pub held : CopiesHeld x filled filled_by w whole
  pub new_is : new ≡ (if missing then cut_off whole else whole)

-- ---- why a message is not written again

-- A question is not added: it has no room.
abbrev pub FailsToAddQuery : QueryValue → WriterState → List ℕ → CopyError → Type 0
FailsToAddQuery q w m e =
    (error : WriteError) × FailsToAdd Queries (question_past slot_of q.name) w m error
    × (e ≡ errors.Write error)

pub record StopsAtQuestion (x : MessageValue) (max_size : ℕ) (old : List ℕ) (e : CopyError) : Type 0 where
  pub first : WriterState
  pub begun : List ℕ
  pub begins : BeginsMessage x.header.metadata.id (flags_of x.header.metadata) max_size old first begun
  pub held : ℕ
  pub holds : HoldsFor 0 (held_in x.additionals) held
  pub stops : StopsAmong Queries query_form FailsToAddQuery x.queries (record first { reserved = held }) begun e

abbrev pub FailsQuestions : MessageValue → ℕ → List ℕ → CopyError → Type 0
FailsQuestions x max_size old e = FailsToHold (held_in x.additionals) e ⊎ StopsAtQuestion x max_size old e

-- A record of a section is not added, for another reason than room; or one has no room, and the message is never cut.
pub data FailsSections (x : MessageValue) (w : WriterState) (m : List ℕ) (e : CopyError) : Type 0 where
  in_answers : FailsSets Answers e x.answers w m → FailsSections x w m e
  in_authorities : (v : WriterState) (n : List ℕ) (all : Bool) → CopiesSets Answers x.answers w m v n all
      → FailsSets Authorities e x.authorities v n → FailsSections x w m e
  in_additionals : (v u : WriterState) (n o : List ℕ) (all more : Bool) → CopiesSets Answers x.answers w m v n all
      → CopiesSets Authorities x.authorities v n u o more → FailsSets Additionals e (sets_of Additionals x.additionals) u o
      → FailsSections x w m e
  cut : (v u t : WriterState) (n o p : List ℕ) (all more most : Bool) → CopiesSets Answers x.answers w m v n all
      → CopiesSets Authorities x.authorities v n u o more → CopiesSets Additionals (sets_of Additionals x.additionals) u o t p most
      → MayNotMiss x (all && (more && most)) e → FailsSections x w m e

-- A record that comes last is not added.
abbrev pub FailsHeld : MessageValue → WriterState → List ℕ → CopyError → Type 0
FailsHeld x w m e =
    StopsAmong Additionals copied_form (FailsToAddCopy Additionals) (held_in x.additionals) (for_last w.reserved w) m e

-- Names in its data follow more pointers than are allowed, or it has no room for its header, its questions or the records that come last,
-- or for any record if it is never cut, or the data of a record are none of its class and type, or memory ran out.
abbrev pub FailsBody : MessageValue → ℕ → List ℕ → CopyError → Type 0
FailsBody x max_size old e =
    (TakesAllPointers (records_of x) max_pointers None × (e ≡ errors.TooManyPointers))
    ⊎ (((max_size < first_item) ⊎ (length old < first_item)) × (e ≡ errors.Write NoRoom))
    ⊎ FailsQuestions x max_size old e
    ⊎ ((w : WriterState) × (m : List ℕ) × CopiesQuestions x max_size old w m × FailsSections x w m e)

-- What it says by EDNS breaks a rule, or it fails so, or a record that comes last is not added.
abbrev pub FailsToCopyMessage : MessageValue → ℕ → List ℕ → CopyError → Type 0
FailsToCopyMessage x max_size old e =
    ((error : EdnsError) × FailsEdns x error × (e ≡ errors.Edns error))
    ⊎ FailsBody x max_size old e
    ⊎ ((w : WriterState) × (m : List ℕ) × (missing : Bool) × CopiesBody x max_size old w m missing × FailsHeld x w m e)
