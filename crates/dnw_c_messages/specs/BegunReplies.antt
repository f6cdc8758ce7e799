-- How the functions for C begin a reply and add its OPT record, and why they do not.
use Rattle.std.specs.Prelude.{◌≡◌, ◌⊎◌, ◌/◌, ◌%◌, ℕ, true, false, List, Result, MatchResult}
use Rattle.dnw_c_base.specs.declared.failure.Failure.{Failure}
use Rattle.dnw_c_base.specs.declared.failure.Failure.TheVariants as why
use Rattle.dnw_message_writer.specs.Replies.{BeginsReplyTo, FailsToReply, reply_code, takes_records}
use Rattle.dnw_message_writer.specs.declared.reply.Asked.{Asked}
use Rattle.dnw_message_writer.specs.declared.reply.ReplyError.{ReplyError}
use Rattle.dnw_message_writer.specs.declared.reply.ReplyError.TheVariants.{LongCode, NoRequest, Write}
use Rattle.dnw_message_writer.specs.declared.state.WriterState.{WriterState}
use Rattle.dnw_c_messages.specs.SetCalls.{AddsEdns, FailsToAddEdns}
use Rattle.dnw_c_messages.specs.WriterCalls.{of_write}
use Rattle.dnw_c_messages.specs.declared.edns.ReadEdns.{ReadEdns}

-- which failure stands for why no reply is begun
abbrev pub of_reply : ReplyError → Failure
of_reply NoRequest = why.BadItem
of_reply LongCode = why.BadItem
of_reply (Write error) = of_write error

-- what C learns of what a reply needs
abbrev pub read_asked : ℕ → Asked → ReadEdns
read_asked code asked = record {
  is_present = asked.has_edns;
  dnssec_ok = asked.dnssec_ok;
  version = 0;
  takes_records = takes_records (reply_code asked code);
  max_payload = asked.max_payload;
  response_code = reply_code asked code;
  options_offset = 0;
  options_len = 0;
}

-- The reply begins, or it does not for such a reason, and the state is unchanged.
abbrev pub RepliesOr : List ℕ → ℕ → ℕ → ℕ → WriterState → List ℕ → WriterState → List ℕ → Result ReadEdns Failure → Type 0
RepliesOr request flags code max_size before old after new result =
    MatchResult result
    (λ found. (asked : Asked) × BeginsReplyTo request flags code max_size asked old after new × (found ≡ read_asked code asked))
    (λ failure. (error : ReplyError) × FailsToReply request flags code max_size old error × (failure ≡ of_reply error) × (after ≡ before))

-- A reply has an OPT record if its request has one, and only then (RFC 6891, sections 6.1.1 and 7): of version 0, with the high bits of the
-- response code (section 6.1.3), and with DO if the request has it (RFC 3225, section 3). It has the 11 octets that are held back for it.
abbrev pub AddsReplyEdns : ReadEdns → ℕ → List ℕ → ℕ → WriterState → List ℕ → WriterState → List ℕ → Type 0
AddsReplyEdns asked max_payload options block before old after new =
    ((asked.is_present ≡ false) × (after ≡ before) × (new ≡ old))
    ⊎ ((asked.is_present ≡ true)
    × AddsEdns 11 max_payload (asked.response_code / 16 % 256) 0 asked.dnssec_ok options block before old after new)

abbrev pub FailsToAddReplyEdns : ReadEdns → ℕ → List ℕ → ℕ → WriterState → List ℕ → Failure → Type 0
FailsToAddReplyEdns asked max_payload options block before old failure =
    (asked.is_present ≡ true)
    × FailsToAddEdns 11 max_payload (asked.response_code / 16 % 256) 0 asked.dnssec_ok options block before old failure
