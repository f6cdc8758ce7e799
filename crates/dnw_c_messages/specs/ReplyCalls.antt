-- Which messages are replies to a request (RFC 5452, section 9.1).
use Rattle.std.specs.Prelude.{◌≡◌, ◌≤◌, ◌↔◌, ◌⊎◌, ◌||◌, ℕ, Bool, true, false, List, [], ◌∷◌, IsTrue, Result}
use Rattle.dnw_base.specs.DnsClasses.{class_code}
use Rattle.dnw_base.specs.Limits.{max_pointers}
use Rattle.dnw_base.specs.Names.{lower}
use Rattle.dnw_base.specs.RecordTypes.{type_code}
use Rattle.dnw_message_read.specs.Headers.{is_response}
use Rattle.dnw_message_read.specs.OpCodes.{op_code}
use Rattle.dnw_message_read.specs.declared.header.Metadata.{Metadata}
use Rattle.dnw_message_read.specs.declared.op_code.OpCode.{OpCode}
use Rattle.dnw_message_read.specs.declared.op_code.OpCode.TheVariants.{Update}
use Rattle.dnw_message_read.specs.declared.response_code.ResponseCode.{ResponseCode}
use Rattle.dnw_message_read.specs.declared.response_code.ResponseCode.TheVariants.{FormErr, NotImp, Refused, ServFail}
use Rattle.dnw_message_read.specs.Messages.{FailsMessage, MessageAt, MessageValue, QueryValue}
use Rattle.dnw_message_read.specs.declared.error.MessageError.{MessageError}
use Rattle.dnw_c_base.specs.Results.{GivesOr}
use Rattle.dnw_c_base.specs.declared.failure.Failure.{Failure}
use Rattle.dnw_c_messages.specs.MessageCalls.{of_message}

-- a request, and a response to it by its header: its id and its kind of request
abbrev pub IsResponseTo : Metadata → Metadata → Type 0
IsResponseTo request response =
    (is_response request.message_type ≡ false) × (is_response response.message_type ≡ true) × (response.id ≡ request.id)
    × (op_code response.op_code ≡ op_code request.op_code)

-- the same name but for case, the same type and the same class
abbrev pub IsSameQuestion : QueryValue → QueryValue → Type 0
IsSameQuestion asked answered =
    (lower answered.name ≡ lower asked.name) × (type_code answered.query_type ≡ type_code asked.query_type)
    × (class_code answered.query_class ≡ class_code asked.query_class)

-- the only question of a request, and of a response
abbrev pub HasSameQuestion : List QueryValue → List QueryValue → Type 0
HasSameQuestion (asked ∷ []) (answered ∷ []) = IsSameQuestion asked answered
HasSameQuestion asked answered = ⊥

-- The server does nothing for such a request, and may not have read it.
abbrev pub is_refusal : ResponseCode → Bool
is_refusal FormErr = true
is_refusal ServFail = true
is_refusal NotImp = true
is_refusal Refused = true
is_refusal code = false

abbrev pub is_update : OpCode → Bool
is_update Update = true
is_update op = false

-- A response may lack the question: if it is to an UPDATE (RFC 2136, section 3.8), or a refusal.
abbrev pub may_lack_question : Metadata → Bool
may_lack_question response = is_update response.op_code || is_refusal response.response_code

-- A response has no question: none was asked (RFC 7873, section 5.4), or it may lack it.
abbrev pub LacksQuestion : Metadata → List QueryValue → List QueryValue → Type 0
LacksQuestion response asked answered = (answered ≡ []) × ((asked ≡ []) ⊎ (may_lack_question response ≡ true))

-- A message answers a request: it is a response to it, and each has one question, the same, or it has none.
abbrev pub Replies : MessageValue → MessageValue → Type 0
Replies request response =
    IsResponseTo request.header.metadata response.header.metadata
    × (HasSameQuestion request.queries response.queries ⊎ LacksQuestion response.header.metadata request.queries response.queries)

-- The octets begin with this message, which the usual number of pointers reads.
abbrev pub IsUsualMessage : List ℕ → MessageValue → Type 0
IsUsualMessage octets m = (k : ℕ) × MessageAt octets m k × (k ≤ max_pointers)

-- They begin with none.
abbrev pub IsNoMessage : List ℕ → Failure → Type 0
IsNoMessage octets failure = (error : MessageError) × FailsMessage octets max_pointers error × (failure ≡ of_message error.kind)

-- It is told whether a message answers a request. Else one of them is no message, the request first.
abbrev pub TellsReply : List ℕ → List ℕ → Result Bool Failure → Type 0
TellsReply request response = GivesOr
    (λ is. (m : MessageValue) × (n : MessageValue) × IsUsualMessage request m × IsUsualMessage response n × (IsTrue is ↔ Replies m n))
    (λ failure. IsNoMessage request failure ⊎ ((m : MessageValue) × IsUsualMessage request m × IsNoMessage response failure))
