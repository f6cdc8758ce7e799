-- What the functions for C put of a whole message, and where one goes wrong (RFC 1035, section 4).
use Rattle.std.specs.Prelude.{◌≡◌, ℕ, ◌≤◌, List, Result}
use Rattle.dnw_c_base.specs.Failures.{of_decode}
use Rattle.dnw_c_base.specs.Results.{GivesOr}
use Rattle.dnw_c_base.specs.declared.failure.Failure.{Failure}
use Rattle.dnw_c_base.specs.declared.failure.Failure.TheVariants as why
use Rattle.dnw_message_read.specs.Headers.{is_response}
use Rattle.dnw_message_read.specs.Messages.{FailsMessage, MessageAt, MessageValue, SectionsBegin}
use Rattle.dnw_message_read.specs.OpCodes.{op_code}
use Rattle.dnw_message_read.specs.ResponseCodes.{response_code}
use Rattle.dnw_message_read.specs.declared.error.MessageError.{MessageError}
use Rattle.dnw_message_read.specs.declared.error.MessageErrorKind.{MessageErrorKind}
use Rattle.dnw_message_read.specs.declared.error.MessageErrorKind.TheVariants.{Decode, TooManyPointers}
use Rattle.dnw_message_read.specs.declared.error.Section.{Section}
use Rattle.dnw_message_read.specs.declared.error.Section.TheVariants as section
use Rattle.dnw_message_read.specs.declared.message.SectionOffsets.{SectionOffsets}
use Rattle.dnw_c_messages.specs.declared.message.MessageFault.{MessageFault}
use Rattle.dnw_c_messages.specs.declared.message.ReadMessage.{ReadMessage}

-- what C learns of a message whose sections begin at these offsets
abbrev pub read_message : MessageValue → SectionOffsets → ReadMessage
read_message m offsets = record {
  id = m.header.metadata.id;
  is_response = is_response m.header.metadata.message_type;
  op_code = op_code m.header.metadata.op_code;
  authoritative = m.header.metadata.authoritative;
  truncation = m.header.metadata.truncation;
  recursion_desired = m.header.metadata.recursion_desired;
  recursion_available = m.header.metadata.recursion_available;
  authentic_data = m.header.metadata.authentic_data;
  checking_disabled = m.header.metadata.checking_disabled;
  response_code = response_code m.header.metadata.response_code;
  question_count = m.header.counts.queries;
  answer_count = m.header.counts.answers;
  authority_count = m.header.counts.authorities;
  additional_count = m.header.counts.additionals;
  answers = offsets.answers;
  authorities = offsets.authorities;
  additionals = offsets.additionals;
  end = m.end;
}

abbrev pub section_number : Section → ℕ
section_number section.Header = 0
section_number section.Queries = 1
section_number section.Answers = 2
section_number section.Authorities = 3
section_number section.Additionals = 4

-- where an error says that a message goes wrong
abbrev pub fault_of : MessageError → MessageFault
fault_of error = record { section = section_number error.section; item = error.item; offset = error.offset }

-- what is wrong there
abbrev pub of_message : MessageErrorKind → Failure
of_message (Decode error) = of_decode error
of_message TooManyPointers = why.TooManyPointers

-- The octets begin with a message whose names follow so many pointers at most, and it is the value. Else there is none, for this reason,
-- and from this item on, which is put.
abbrev pub ReadsMessage : List ℕ → ℕ → MessageFault → MessageFault → Result ReadMessage Failure → Type 0
ReadsMessage octets most old new = GivesOr
    (λ found. (m : MessageValue) × (offsets : SectionOffsets) × (k : ℕ) × MessageAt octets m k × (k ≤ most) × SectionsBegin m offsets
    × (found ≡ read_message m offsets) × (new ≡ old))
    (λ failure. (error : MessageError) × FailsMessage octets most error × (new ≡ fault_of error) × (failure ≡ of_message error.kind))
