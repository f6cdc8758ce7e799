use Rattle.dnw_message_read.proofs.Headers.{headers_read_back, headers_write_back}
use Rattle.dnw_message_read.proofs.laws.headers_come_back.Goals as goal

pub returns-clause-read : goal.returns-clause-read
returns-clause-read c = headers_read_back

pub returns-clause-written : goal.returns-clause-written
returns-clause-written c = headers_write_back
