-- What messages ask for, with their codes and names (RFC 6895, section 2.2, and the IANA registry "DNS OpCodes").
use Rattle.std.specs.Prelude.{ℕ, ◌==◌, List, [], ◌∷◌, find, codes, unwrap_or}
use Rattle.dnw_base.specs.Entries.{Entry, entry}
use Rattle.dnw_message_read.specs.declared.op_code.OpCode.{OpCode}
use Rattle.dnw_message_read.specs.declared.op_code.OpCode.TheVariants.{Query, Status, Notify, Update, Unknown}

-- the table of the operations
abbrev pub op_entry : OpCode → Entry
op_entry Query = entry 0 (codes "Query")
op_entry Status = entry 2 (codes "Status")
op_entry Notify = entry 4 (codes "Notify")
op_entry Update = entry 5 (codes "Update")
op_entry (Unknown code) = entry code (codes "Unknown")

abbrev pub op_code : OpCode → ℕ
op_code op = (op_entry op).code

-- the operations that have a name of their own
abbrev pub named_ops : List OpCode
named_ops = Query ∷ Status ∷ Notify ∷ Update ∷ []

-- the operation with this code: the named one, or `Unknown` if none has it
unfoldable pub op_of_code : ℕ → OpCode
op_of_code code = unwrap_or (find (λ op. op_code op == code) named_ops) (Unknown code)
