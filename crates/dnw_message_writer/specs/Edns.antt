-- OPT records, as they are written (RFC 6891, section 6.1), and padding (RFC 7830).
use Rattle.std.specs.Prelude.{◌≡◌, ℕ, ◌+◌, ◌-◌, ◌*◌, ◌%◌, ◌^◌, ◌==◌, ◌||◌, ◌⊎◌, nat_lt, if◌then◌else◌, Option, Some, None, List, [], ◌∷◌, ◌++◌, length, replicate}
use Rattle.std.specs.Int.{w16, to_be_bytes}
use Rattle.dnw_base.specs.TypeCodes.{opt_code}
use Rattle.dnw_message_read.specs.Codes.{option_code}
use Rattle.dnw_message_read.specs.Edns.{HasOptions}
use Rattle.dnw_message_read.specs.Headers.{flag}
use Rattle.dnw_message_read.specs.declared.code.OptionCode.TheVariants.{Padding}
use Rattle.dnw_message_writer.specs.Listed.{data_form, data_past}
use Rattle.dnw_message_writer.specs.States.{AddsItem, FailsToAdd, room_of}
use Rattle.dnw_message_writer.specs.declared.edns.Edns.{Edns}
use Rattle.dnw_message_writer.specs.declared.section.Section.TheVariants.{Additionals}
use Rattle.dnw_message_writer.specs.declared.section.WriteError.{WriteError}
use Rattle.dnw_message_writer.specs.declared.section.WriteError.TheVariants.{CutOption}
use Rattle.dnw_message_writer.specs.declared.state.WriterState.{WriterState}

-- the high bits of the response code, the version, and the flags, of which DO is the highest (section 6.1.3)
abbrev pub ttl_of_edns : Edns → ℕ
ttl_of_edns e = e.rcode_high * 2 ^ 24 + e.version * 2 ^ 16 + flag e.dnssec_ok 15

-- the octets of an OPT record before its data, and those of an option before its own
abbrev pub opt_size : ℕ
opt_size = 15

-- A message is padded to a multiple of at most so many octets.
abbrev pub most_block : ℕ
most_block = 512

-- what a number lacks to a multiple of a block
abbrev pub lacking : ℕ → ℕ → ℕ
lacking block total = (block - total % block) % block

-- How many octets the option Padding has after options of this size, if it is added: so that the message, with the octets that are
-- held back, has a multiple of the block; and not without a block, or without room.
abbrev pub padding_size : ℕ → WriterState → List ℕ → ℕ → Option ℕ
padding_size block w m options =
    if block == 0 || nat_lt (room_of w m) (w.end + (opt_size + options + lacking block (w.end + opt_size + options + w.reserved)))
    then None else Some (lacking block (w.end + opt_size + options + w.reserved))

-- the code of the option Padding, and the option of so many zeros (RFC 7830, section 3)
abbrev pub padding_code : ℕ
padding_code = option_code Padding

abbrev pub padding : Option ℕ → List ℕ
padding None = []
padding (Some size) = 0 ∷ padding_code ∷ (to_be_bytes w16 size ++ replicate size 0)

-- the data of the OPT record
abbrev pub opt_data : Edns → ℕ → WriterState → List ℕ → List ℕ
opt_data e block w m = e.options.now ++ padding (padding_size block w m (length e.options.now))

-- The OPT record is an item: owned by the root, with the payload size as its class.
abbrev pub AddsOptItem : Edns → ℕ → WriterState → List ℕ → WriterState → List ℕ → Type 0
AddsOptItem e block w old after new =
    AddsItem Additionals (data_form [] opt_code e.max_payload (ttl_of_edns e) (opt_data e block w old)) w old after new

abbrev pub FailsToAddOptItem : Edns → ℕ → WriterState → List ℕ → WriteError → Type 0
FailsToAddOptItem e block w m error =
    FailsToAdd Additionals (data_past [] opt_code e.max_payload (ttl_of_edns e) (opt_data e block w m)) w m error

-- It is added, if its options are whole (section 6.1.2).
abbrev pub AddsOpt : Edns → ℕ → WriterState → List ℕ → WriterState → List ℕ → Type 0
AddsOpt e block w old after new = HasOptions e.options.now × AddsOptItem e block w old after new

abbrev pub FailsToAddOpt : Edns → ℕ → WriterState → List ℕ → WriteError → Type 0
FailsToAddOpt e block w m error =
    ((HasOptions e.options.now → ⊥) × (error ≡ CutOption)) ⊎ (HasOptions e.options.now × FailsToAddOptItem e block w m error)
