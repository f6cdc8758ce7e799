-- Replies as they are appended to a list.
use Rattle.std.specs.Prelude.{◌≡◌, ℕ, ◌++◌, List}
use Rattle.ans_reply.specs.Replies.{ZoneReply}
use Rattle.ans_reply.specs.declared.reply.Said.{Said}

-- These octets are appended for a reply, and this is its code, and whether AA is set.
pub record AppendsReply (octets : List ℕ) (reply : ZoneReply) (old new : List ℕ) (said : Said) : Type 0 where
  pub items : new ≡ old ++ octets
  pub code : said.code ≡ reply.code
  pub authoritative : said.is_authoritative ≡ reply.authoritative
