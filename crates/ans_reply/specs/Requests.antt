-- Replies, as they are listed.
use Rattle.std.specs.Prelude.{◌≡◌, Option}
use Rattle.dns_names_wire.specs.Words.{QueryValue}
use Rattle.dns_names_wire.specs.declared.message_writer.Asked.{Asked}
use Rattle.ans_reply.specs.Lists.{reply_items}
use Rattle.ans_reply.specs.Replies.{ZoneReply}
use Rattle.ans_reply.specs.declared.reply.ReplyItems.{ReplyItems}

-- This is what the message of a reply is written of: its items, its code, and AA.
pub record IsReplyAs (asked : Asked) (query : Option QueryValue) (reply : ZoneReply) (it : ReplyItems) : Type 0 where
  pub items : it.items.items ≡ reply_items asked query reply
  pub code : it.code ≡ reply.code
  pub authoritative : it.is_authoritative ≡ reply.authoritative
