-- What `dig` shows of a header (RFC 1035, section 4.1.1).
use Rattle.std.specs.Prelude.{◌≡◌, ◌⊎◌, ℕ, Bool, true, false, List, [], ◌∷◌, ◌++◌, map, codes, decimal}
use Rattle.std.specs.Char.{to_ascii_uppercase}
use Rattle.dnw_message_read.specs.Edns.{FailsEdns, IsResponseCode}
use Rattle.dnw_message_read.specs.Messages.{MessageValue}
use Rattle.dnw_message_read.specs.OpCodes.{op_entry}
use Rattle.dnw_message_read.specs.ResponseCodes.{response_entry}
use Rattle.dnw_message_read.specs.declared.edns.EdnsError.{EdnsError}
use Rattle.dnw_message_read.specs.declared.header.HeaderCounts.{HeaderCounts}
use Rattle.dnw_message_read.specs.declared.header.MessageType.{MessageType}
use Rattle.dnw_message_read.specs.declared.header.MessageType.TheVariants.{Query, Response}
use Rattle.dnw_message_read.specs.declared.header.Metadata.{Metadata}
use Rattle.dnw_message_read.specs.declared.op_code.OpCode.{OpCode}
use Rattle.dnw_message_read.specs.declared.op_code.OpCode.TheVariants as op
use Rattle.dnw_message_read.specs.declared.response_code.ResponseCode.{ResponseCode}
use Rattle.dnw_message_read.specs.declared.response_code.ResponseCode.TheVariants as rc

-- a name in capitals
abbrev pub capitals : List ℕ → List ℕ
capitals name = map to_ascii_uppercase name

-- a code without a name
abbrev pub reserved_text : ℕ → List ℕ
reserved_text code = codes "RESERVED" ++ decimal code

-- an operation, by its name in the registry, in capitals
abbrev pub op_text : OpCode → List ℕ
op_text (op.Unknown code) = reserved_text code
op_text other = capitals (op_entry other).name

-- a response code, by its name in the registry, in capitals
abbrev pub response_text : ResponseCode → List ℕ
response_text (rc.Unknown code) = reserved_text code
response_text other = capitals (response_entry other).name

abbrev pub is_response : MessageType → Bool
is_response Query = false
is_response Response = true

abbrev pub counts_text : HeaderCounts → List ℕ
counts_text counts =
    codes "; QUERY: " ++ (decimal counts.queries ++ (codes ", ANSWER: " ++ (decimal counts.answers
    ++ (codes ", AUTHORITY: " ++ (decimal counts.authorities ++ (codes ", ADDITIONAL: " ++ decimal counts.additionals))))))

-- the operation, this response code and the id
abbrev pub head_codes : Metadata → ResponseCode → List ℕ
head_codes m response =
    codes ";; ->>HEADER<<- opcode: " ++ (op_text m.op_code ++ (codes ", status: " ++ (response_text response ++ (codes ", id: " ++ decimal m.id))))

-- The response code that is shown has the bits of EDNS, or those of the header alone if the message breaks a rule of EDNS.
abbrev pub IsShownCode : MessageValue → ResponseCode → Type 0
IsShownCode m response = IsResponseCode m response ⊎ ((error : EdnsError) × FailsEdns m error × (response ≡ m.header.metadata.response_code))
