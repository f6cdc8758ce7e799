-- Whole messages (RFC 1035, section 4): a header, and then as many questions and records as it counts, one after the other.
use Rattle.std.specs.Prelude.{◌≡◌, ℕ, ◌+◌, ◌-◌, ◌<◌, ◌≤◌, List, [], ◌∷◌, length, map, slice_range, ◌⊎◌}
use Rattle.dnw_base.specs.declared.record_type.RecordType.{RecordType}
use Rattle.dnw_base.specs.declared.dns_class.DNSClass.{DNSClass}
use Rattle.dnw_base.specs.RecordTypes.{type_of_code}
use Rattle.dnw_base.specs.DnsClasses.{class_of_code}
use Rattle.dnw_base.specs.declared.error.DecodeError.{DecodeError}
use Rattle.dnw_base.specs.declared.error.DecodeError.TheVariants.{InsufficientBytes}
use Rattle.dnw_name_read.specs.Reading.{FaultAt, NameAt}
use Rattle.dnw_record.specs.Records.{RecordValue, fixed_at, fixed_size, length_field, number_at, record_of}
use Rattle.dnw_message_read.specs.Headers.{header_of, header_size}
use Rattle.dnw_message_read.specs.declared.header.Header.{Header}
use Rattle.dnw_message_read.specs.declared.message.SectionOffsets.{SectionOffsets}
use Rattle.dnw_message_read.specs.declared.error.MessageError.{MessageError}
use Rattle.dnw_message_read.specs.declared.error.MessageErrorKind.{MessageErrorKind}
use Rattle.dnw_message_read.specs.declared.error.MessageErrorKind.TheVariants.{Decode, TooManyPointers}
use Rattle.dnw_message_read.specs.declared.error.Section.{Section}
use Rattle.dnw_message_read.specs.declared.error.Section.TheVariants as section

-- ---- items

-- An item of a section: the labels of the name that it begins with, and where the name's own octets end.
pub record Item : Type 0 where
  pub labels : List (List ℕ)
  pub name_end : ℕ

-- how many octets follow a name that ends at e
abbrev pub Rest : Type 0
Rest = List ℕ → ℕ → ℕ

-- in a question: type and class (section 4.1.2)
abbrev pub question_rest : Rest
question_rest b e = 4

-- in a record: type, class, time to live and length, and as many octets of data (section 4.1.3)
abbrev pub record_rest : Rest
record_rest b e = fixed_size + length_field (fixed_at b e)

abbrev pub rest_of : Section → Rest
rest_of section.Queries = question_rest
rest_of kind = record_rest

-- An item goes from p to e, and its name follows k pointers.
pub record ItemAt (rest : Rest) (b : List ℕ) (p : ℕ) (x : Item) (e k : ℕ) : Type 0 where
  pub name : NameAt b p x.labels x.name_end k
  pub ends : e ≡ x.name_end + rest b x.name_end
  pub inside : e ≤ length b

-- There is no item at p: reading its name stops with this error, or octets are missing after the name.
abbrev pub FailsItem : Rest → List ℕ → ℕ → DecodeError → Type 0
FailsItem rest b p error =
    ((k : ℕ) × (j : ℕ) × FaultAt b p error k j)
    ⊎ ((labels : List (List ℕ)) × (e : ℕ) × (k : ℕ) × NameAt b p labels e k × (length b < e + rest b e) × (error ≡ InsufficientBytes))

-- Items follow one another from p to e, and their names follow k pointers in all.
pub data ItemsAt (rest : Rest) (b : List ℕ) : ℕ → List Item → ℕ → ℕ → Type 0 where
  none : {p : ℕ} → ItemsAt rest b p [] p 0
  one_more : {p q e j k : ℕ} {x : Item} {xs : List Item}
      → ItemAt rest b p x q j → ItemsAt rest b q xs e k → ItemsAt rest b p (x ∷ xs) e (j + k)

-- ---- sections

-- A section: which one, and how many items it has.
pub record Part : Type 0 where
  pub section : Section
  pub count : ℕ

abbrev pub part : Section → ℕ → Part
part section count = record { section = section; count = count }

-- the sections after a header
abbrev pub sections_of : Header → List Part
sections_of h =
    part section.Queries h.counts.queries ∷ part section.Answers h.counts.answers ∷ part section.Authorities h.counts.authorities
    ∷ part section.Additionals h.counts.additionals ∷ []

-- Sections follow one another from p to e, each with as many items as are counted.
pub data PartsAt (b : List ℕ) : ℕ → List Part → List (List Item) → ℕ → ℕ → Type 0 where
  done : {p : ℕ} → PartsAt b p [] [] p 0
  next : {p q e j k : ℕ} {s : Part} {parts : List Part} {xs : List Item} {sections : List (List Item)}
      → ItemsAt (rest_of s.section) b p xs q j → length xs ≡ s.count → PartsAt b q parts sections e k
      → PartsAt b p (s ∷ parts) (xs ∷ sections) e (j + k)

-- ---- messages

-- A question: its name's labels, its type and its class.
pub record QueryValue : Type 0 where
  pub name : List (List ℕ)
  pub query_type : RecordType
  pub query_class : DNSClass

abbrev pub query_of : List ℕ → Item → QueryValue
query_of b x = record {
  name = x.labels;
  query_type = type_of_code (number_at b x.name_end);
  query_class = class_of_code (number_at b (x.name_end + 2));
}

abbrev pub record_in : List ℕ → Item → RecordValue
record_in b x = record_of b x.labels x.name_end

-- A message: the octets that it was read from, its header, its sections, and where it ends.
pub record MessageValue : Type 0 where
  pub octets : List ℕ
  pub header : Header
  pub queries : List QueryValue
  pub answers : List RecordValue
  pub authorities : List RecordValue
  pub additionals : List RecordValue
  pub end : ℕ

-- These octets begin with this message, whose names follow k pointers in all.
pub record MessageAt (b : List ℕ) (m : MessageValue) (k : ℕ) : Type 0 where
  pub whole : header_size ≤ length b
  pub octets : m.octets ≡ b
  pub header : m.header ≡ header_of (slice_range b 0 header_size)
  pub queries : List Item
  pub answers : List Item
  pub authorities : List Item
  pub additionals : List Item
  pub sections : PartsAt b header_size (sections_of m.header) (queries ∷ answers ∷ authorities ∷ additionals ∷ []) m.end k
  pub queries_are : m.queries ≡ map (query_of b) queries
  pub answers_are : m.answers ≡ map (record_in b) answers
  pub authorities_are : m.authorities ≡ map (record_in b) authorities
  pub additionals_are : m.additionals ≡ map (record_in b) additionals

-- Items with these values go from p to e.
abbrev pub SectionAt : {A : Type 0} → Rest → (List ℕ → Item → A) → List ℕ → ℕ → List A → ℕ → Type 0
SectionAt rest of b p values e = (xs : List Item) × (k : ℕ) × ItemsAt rest b p xs e k × (values ≡ map (of b) xs)

-- The records of a message begin at these offsets, each section where the one before ends: the answers after the questions,
-- which come after the header.
abbrev pub SectionsBegin : MessageValue → SectionOffsets → Type 0
SectionsBegin m offsets =
    SectionAt question_rest query_of m.octets header_size m.queries offsets.answers
    × SectionAt record_rest record_in m.octets offsets.answers m.answers offsets.authorities
    × SectionAt record_rest record_in m.octets offsets.authorities m.authorities offsets.additionals
    × SectionAt record_rest record_in m.octets offsets.additionals m.additionals m.end

-- ---- errors

-- There is no item at p, or one whose name follows more pointers than are left.
abbrev pub FailsHere : Rest → List ℕ → ℕ → ℕ → MessageErrorKind → Type 0
FailsHere rest b p left (Decode error) = FailsItem rest b p error
FailsHere rest b p left TooManyPointers = (x : Item) × (e : ℕ) × (k : ℕ) × ItemAt rest b p x e k × (left < k)

-- In a section from p on, of whose names `left` pointers may be followed, the items before this one are there, and this one
-- is not.
pub record FailsWithin (b : List ℕ) (p : ℕ) (s : Part) (left : ℕ) (error : MessageError) : Type 0 where
  pub passed : List Item
  pub followed : ℕ
  pub before : ItemsAt (rest_of s.section) b p passed error.offset followed
  pub few : followed ≤ left
  pub section : error.section ≡ s.section
  pub item : error.item ≡ length passed
  pub counted : error.item < s.count
  pub why : FailsHere (rest_of s.section) b error.offset (left - followed) error.kind

-- The first of these sections that is not there fails.
abbrev pub FailsFrom : List ℕ → ℕ → List Part → ℕ → MessageError → Type 0
FailsFrom b p [] left error = ⊥
FailsFrom b p (s ∷ parts) left error =
    FailsWithin b p s left error
    ⊎ ((xs : List Item) × (q : ℕ) × (k : ℕ) × ItemsAt (rest_of s.section) b p xs q k × (length xs ≡ s.count) × (k ≤ left)
    × FailsFrom b q parts (left - k) error)

-- The header is not all there.
abbrev pub no_header : MessageError
no_header = record { section = section.Header; item = 0; offset = 0; kind = Decode InsufficientBytes }

-- No message begins these octets, or one whose names follow more pointers than this: the first fault is this error.
abbrev pub FailsMessage : List ℕ → ℕ → MessageError → Type 0
FailsMessage b most error =
    ((length b < header_size) × (error ≡ no_header))
    ⊎ ((header_size ≤ length b) × FailsFrom b header_size (sections_of (header_of (slice_range b 0 header_size))) most error)
