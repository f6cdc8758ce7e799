-- What the functions for C put of the EDNS of a message, and why there is none (RFC 6891).
use Rattle.std.specs.Prelude.{◌≡◌, ◌⊎◌, ℕ, ◌≤◌, true, false, Option, Some, None, List, Result}
use Rattle.dnw_base.specs.Limits.{min_payload}
use Rattle.dnw_c_base.specs.Failures.{of_decode}
use Rattle.dnw_c_base.specs.Results.{GivesOr}
use Rattle.dnw_c_base.specs.declared.failure.Failure.{Failure}
use Rattle.dnw_c_base.specs.declared.failure.Failure.TheVariants as why
use Rattle.dnw_message_read.specs.Edns.{EdnsValue, FailsEdns, HasEdns, IsResponseCode}
use Rattle.dnw_message_read.specs.Messages.{FailsMessage, MessageAt, MessageValue}
use Rattle.dnw_message_read.specs.ResponseCodes.{response_code}
use Rattle.dnw_message_read.specs.declared.edns.EdnsError.{EdnsError}
use Rattle.dnw_message_read.specs.declared.edns.EdnsError.TheVariants.{CutOption, Decode, OwnerNotRoot}
use Rattle.dnw_message_read.specs.declared.error.MessageError.{MessageError}
use Rattle.dnw_message_read.specs.declared.response_code.ResponseCode.{ResponseCode}
use Rattle.dnw_message_writer.specs.Replies.{takes_records}
use Rattle.dnw_c_messages.specs.MessageCalls.{of_message}
use Rattle.dnw_c_messages.specs.declared.edns.ReadEdns.{ReadEdns}

-- what C learns of the EDNS of a message with this response code, and if one with this code takes records; without an OPT record, what
-- any receiver accepts
abbrev pub read_edns : Option EdnsValue → ResponseCode → ReadEdns
read_edns None code = record {
  is_present = false;
  dnssec_ok = false;
  version = 0;
  takes_records = takes_records (response_code code);
  max_payload = min_payload;
  response_code = response_code code;
  options_offset = 0;
  options_len = 0;
}
read_edns (Some e) code = record {
  is_present = true;
  dnssec_ok = e.dnssec_ok;
  version = e.version;
  takes_records = takes_records (response_code code);
  max_payload = e.max_payload;
  response_code = response_code code;
  options_offset = e.start;
  options_len = e.len;
}

-- This is what a message says by EDNS.
abbrev pub IsReadEdns : MessageValue → ReadEdns → Type 0
IsReadEdns m found = (e : Option EdnsValue) × (code : ResponseCode) × HasEdns m e × IsResponseCode m code × (found ≡ read_edns e code)

abbrev pub of_edns : EdnsError → Failure
of_edns (Decode cause) = of_decode cause
of_edns OwnerNotRoot = why.OwnerNotRoot
of_edns CutOption = why.CutOption

-- A message breaks a rule of EDNS.
abbrev pub FailsToSay : MessageValue → Failure → Type 0
FailsToSay m failure = (error : EdnsError) × FailsEdns m error × (failure ≡ of_edns error)

-- The octets begin with a message whose names follow so many pointers at most, and what it says by EDNS is the value. Else there is
-- no such message, or it breaks a rule of EDNS.
abbrev pub ReadsEdns : List ℕ → ℕ → Result ReadEdns Failure → Type 0
ReadsEdns octets most = GivesOr
    (λ found. (m : MessageValue) × (k : ℕ) × MessageAt octets m k × (k ≤ most) × IsReadEdns m found)
    (λ failure. ((error : MessageError) × FailsMessage octets most error × (failure ≡ of_message error.kind))
    ⊎ ((m : MessageValue) × (k : ℕ) × MessageAt octets m k × (k ≤ most) × FailsToSay m failure))
