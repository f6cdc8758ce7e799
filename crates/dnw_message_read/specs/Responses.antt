-- How the response to a request begins (RFC 1035, section 4.1.1).
use Rattle.std.specs.Prelude.{false}
use Rattle.dnw_message_read.specs.declared.header.MessageType.TheVariants.{Response}
use Rattle.dnw_message_read.specs.declared.header.Metadata.{Metadata}
use Rattle.dnw_message_read.specs.declared.response_code.ResponseCode.TheVariants.{NoError}

-- Of its request a response has the id, the operation, RD, and CD (RFC 4035, section 3.2.2). What the server says comes later.
abbrev pub response_to : Metadata → Metadata
response_to request = record {
  id = request.id;
  message_type = Response;
  op_code = request.op_code;
  authoritative = false;
  truncation = false;
  recursion_desired = request.recursion_desired;
  recursion_available = false;
  authentic_data = false;
  checking_disabled = request.checking_disabled;
  response_code = NoError;
}
