-- What the only `OPT` record of a request asks.
use Rattle.std.specs.Prelude.{◌≡◌, ◌⊎◌, []}
use Rattle.dnw_record.specs.Records.{RecordValue}
use Rattle.dnw_message_read.specs.Edns.{EdnsValue, FailsOpt, IsEdns}
use Rattle.dnw_message_read.specs.Messages.{MessageValue}
use Rattle.dnw_message_read.specs.declared.edns.EdnsError.{EdnsError}
use Rattle.dnw_message_writer.specs.Replies.{asks_by, formerr_code, nothing_asked}
use Rattle.dnw_message_writer.specs.declared.reply.Asked.{Asked}

abbrev pub AsksByOpt : RecordValue → Asked → Type 0
AsksByOpt r asked =
    ((e : EdnsError) × FailsOpt r e × (asked ≡ nothing_asked formerr_code)) ⊎ ((e : EdnsValue) × IsEdns r e × (asked ≡ asks_by e))

-- A message has additional records alone.
abbrev pub HasAdditionalsAlone : MessageValue → Type 0
HasAdditionalsAlone m = (m.answers ≡ []) × (m.authorities ≡ [])
