-- The numbers by which C learns why a call fails.
use Rattle.std.specs.Prelude.{◌≡◌, ◌≢◌, ◌⊎◌, ℕ, List, [], codes}
use Rattle.dnw_base.specs.declared.error.DecodeError.{DecodeError}
use Rattle.dnw_base.specs.declared.error.DecodeError.TheVariants.{InsufficientBytes, PointerNotPriorToLabel}
use Rattle.dnw_base.specs.declared.error.DecodeError.TheVariants.{UnrecognizedLabelCode, Memory}
use Rattle.dnw_base.specs.declared.error.DecodeError.TheVariants.{LabelOverlapsWithOther}
use Rattle.dnw_base.specs.declared.error.DecodeError.TheVariants.{DomainNameTooLong, LabelBytesTooLong}
use Rattle.dnw_base.specs.declared.error.DecodeError.TheVariants.{IncorrectRDataLengthRead, NsecBitmapOutOfBounds, SvcParamsOutOfOrder}
use Rattle.dnw_base.specs.declared.error.DecodeError.TheVariants.{DuplicateEdns, RecordNotInAdditionalSection, UnknownAddressFamily}
use Rattle.dnw_base.specs.declared.error.ProtoError.{ProtoError}
use Rattle.dnw_base.specs.declared.error.ProtoError.TheVariants.{Decode, Message}
use Rattle.dnw_base.specs.declared.error.ProtoError.TheVariants.{Msg, MaxBufferSizeExceeded, Memory as ProtoMemory}
use Rattle.dnw_base.specs.Fault.{Fault, LabelTooLong as TextLabelTooLong, NameTooLong as TextNameTooLong}
use Rattle.dnw_base.specs.Entries.{Entry, entry}
use Rattle.dnw_c_base.specs.declared.failure.Failure.{Failure}
use Rattle.dnw_c_base.specs.declared.failure.Failure.TheVariants as why

-- the table of the failures: the number in C, and a text for people
abbrev pub failure_entry : Failure → Entry
failure_entry why.NoMemory = entry 1 (codes "out of memory")
failure_entry why.NoRoom = entry 2 (codes "the buffer for the result is too short")
failure_entry why.MessageCut = entry 3 (codes "the message ends within the name")
failure_entry why.PointerNotBack = entry 4 (codes "a compression pointer does not point back")
failure_entry why.ReservedOctet = entry 5 (codes "an octet from 64 to 191 begins no label")
failure_entry why.SegmentsOverlap = entry 6 (codes "a name runs into the name that points to it")
failure_entry why.NameTooLong = entry 7 (codes "a name of more than 255 octets")
failure_entry why.LabelTooLong = entry 8 (codes "a label of more than 63 octets")
failure_entry why.BadText = entry 9 (codes "a label, a character or an escape of the text is not allowed")
failure_entry why.NotUtf8 = entry 10 (codes "the text is not UTF-8")
failure_entry why.BytesLeft = entry 11 (codes "bytes follow after the name")
failure_entry why.MessageTooLong = entry 12 (codes "the message would be longer than its maximum")
failure_entry why.Other = entry 13 (codes "another failure")
failure_entry why.UnknownText = entry 14 (codes "the text names no record type and no class")
failure_entry why.NotOrdered = entry 15 (codes "neither serial number comes after the other")
failure_entry why.BadBitmap = entry 16 (codes "the bitmap is out of bounds")
failure_entry why.BadTime = entry 17 (codes "the text is no time to live")
failure_entry why.TextCut = entry 18 (codes "the text ends within an escape or a line's end")
failure_entry why.IllegalCharacter = entry 19 (codes "a character stands where it may not")
failure_entry why.ControlCharacter = entry 20 (codes "the text has a control character")
failure_entry why.UnclosedList = entry 21 (codes "the text ends before the ) of a list")
failure_entry why.UnclosedQuote = entry 22 (codes "the text ends before a closing quote")
failure_entry why.UnknownEntry = entry 23 (codes "no control entry has this name")
failure_entry why.WrongDataLength = entry 24 (codes "the data of the record are not as long as their name")
failure_entry why.BadAddress = entry 25 (codes "an address has 4 or 16 bytes")
failure_entry why.NotReverse = entry 26 (codes "the name is no reverse name of an address or a net")
failure_entry why.BadItem = entry 27 (codes "an item of the list is malformed")
failure_entry why.EmptyLabel = entry 28 (codes "a label of the text is empty")
failure_entry why.BadEscape = entry 29 (codes "an escape of the text is not three digits up to 255")
failure_entry why.TooManyPointers = entry 30 (codes "the names follow more pointers than the caller allows")
failure_entry why.DuplicateEdns = entry 31 (codes "the message has more than one OPT record")
failure_entry why.OwnerNotRoot = entry 32 (codes "the OPT record is not owned by the root")
failure_entry why.CutOption = entry 33 (codes "an option of the OPT record is cut")
failure_entry why.BadParams = entry 34 (codes "the service parameters are not in ascending order")
failure_entry why.BadData = entry 35 (codes "not data of the record type")
failure_entry why.NotRrsig = entry 36 (codes "the record is no RRSIG")
failure_entry why.NotCovered = entry 37 (codes "the RRSIG covers none of the records")
failure_entry why.TooFewLabels = entry 38 (codes "the owner has fewer labels than the RRSIG counts")
failure_entry why.DataTooLong = entry 39 (codes "the data of a record, or a text in them, are too long")
failure_entry why.OutsideAdditionals = entry 40 (codes "an OPT record is outside the additional section")
failure_entry why.NotDnskey = entry 41 (codes "the octets are no data of a DNSKEY")
failure_entry why.UnknownAlgorithm = entry 42 (codes "the digest type or hash algorithm is not known")
failure_entry why.TooManyIterations = entry 43 (codes "more iterations than the caller allows")
failure_entry why.BadFamily = entry 44 (codes "an address prefix or a gateway is none of its family or type")

abbrev pub number : Failure → ℕ
number failure = (failure_entry failure).code

abbrev pub failure_text : Failure → List ℕ
failure_text failure = (failure_entry failure).name

-- The number of a failure for which this is so.
abbrev pub NumberOf : (Failure → Type 0) → ℕ → Type 0
NumberOf Fails code = (failure : Failure) × Fails failure × (code ≡ number failure)

-- The text of a number: of success, of a failure, and none of any other.
abbrev pub HasText : ℕ → List ℕ → Type 0
HasText code text =
    ((code ≡ 0) × (text ≡ codes "success"))
    ⊎ ((failure : Failure) × (code ≡ number failure) × (text ≡ failure_text failure))
    ⊎ ((code ≢ 0) × ((failure : Failure) → number failure ≢ code) × (text ≡ []))

-- why a name or a field of a message is rejected
abbrev pub of_decode : DecodeError → Failure
of_decode InsufficientBytes = why.MessageCut
of_decode (PointerNotPriorToLabel idx ptr) = why.PointerNotBack
of_decode (UnrecognizedLabelCode code) = why.ReservedOctet
of_decode (LabelOverlapsWithOther label other) = why.SegmentsOverlap
of_decode (DomainNameTooLong size) = why.NameTooLong
of_decode (LabelBytesTooLong size) = why.LabelTooLong
of_decode Memory = why.NoMemory
of_decode (IncorrectRDataLengthRead read len) = why.WrongDataLength
of_decode DuplicateEdns = why.DuplicateEdns
of_decode (RecordNotInAdditionalSection record_type) = why.OutsideAdditionals
of_decode NsecBitmapOutOfBounds = why.BadBitmap
of_decode SvcParamsOutOfOrder = why.BadParams
of_decode (UnknownAddressFamily family) = why.BadFamily
of_decode error = why.Other

-- why a text is rejected or a write fails
abbrev pub of_proto : ProtoError → Failure
of_proto (Decode cause) = of_decode cause
of_proto (Message text) = why.BadText
of_proto (Msg text) = why.BadText
of_proto (MaxBufferSizeExceeded size) = why.MessageTooLong
of_proto ProtoMemory = why.NoMemory
of_proto error = why.Other

-- why the text of a name is rejected
abbrev pub of_fault : Fault → Failure
of_fault (TextLabelTooLong size) = why.LabelTooLong
of_fault (TextNameTooLong size) = why.NameTooLong
of_fault fault = why.BadText
