-- EDNS: an OPT record in the additional section, and in no other (RFC 6891, section 6.1).
use Rattle.std.specs.Prelude.{◌≡◌, ◌≢◌, ℕ, ◌+◌, ◌*◌, ◌/◌, ◌%◌, ◌^◌, ◌≤◌, ◌==◌, ◌++◌, max, nat_le, if◌then◌else◌, Bool, true, false, Option, Some, None, List, [], ◌∷◌, filter, length, drop, slice_range, ◌⊎◌}
use Rattle.std.specs.Int.{bit_at}
use Rattle.dnw_base.specs.declared.error.DecodeError.TheVariants.{DuplicateEdns, RecordNotInAdditionalSection}
use Rattle.dnw_base.specs.declared.record_type.RecordType.{RecordType}
use Rattle.dnw_base.specs.declared.record_type.RecordType.TheVariants.{OPT}
use Rattle.dnw_base.specs.DnsClasses.{class_code}
use Rattle.dnw_base.specs.Limits.{min_payload}
use Rattle.dnw_record.specs.Records.{RecordValue, data_octets, number_at}
use Rattle.dnw_message_read.specs.declared.edns.EdnsError.{EdnsError}
use Rattle.dnw_message_read.specs.declared.edns.EdnsError.TheVariants.{CutOption, Decode, OwnerNotRoot}
use Rattle.dnw_message_read.specs.declared.response_code.ResponseCode.{ResponseCode}
use Rattle.dnw_message_read.specs.ResponseCodes.{response_code, response_of_code}
use Rattle.dnw_message_read.specs.Messages.{MessageValue}

-- ---- options

-- An option: its code and its octets (section 6.1.2).
pub record OptionValue : Type 0 where
  pub code : ℕ
  pub octets : List ℕ

-- an option's code, its length, and as many octets
abbrev pub option_size : List ℕ → ℕ
option_size d = 4 + number_at d 2

abbrev pub option_of : List ℕ → OptionValue
option_of d = record { code = number_at d 0; octets = slice_range d 4 (option_size d) }

-- the option that octets begin with, if it is all there, and the octets after it
unfoldable pub first_option : List ℕ → Option (OptionValue × List ℕ)
first_option d = if nat_le (option_size d) (length d) then Some (option_of d, drop (option_size d) d) else None

-- The octets are these options, one after another.
pub data OptionsAre : List ℕ → List OptionValue → Type 0 where
  none : OptionsAre [] []
  one_more : {d rest : List ℕ} {x : OptionValue} {xs : List OptionValue} → first_option d ≡ Some (x, rest) → OptionsAre rest xs → OptionsAre d (x ∷ xs)

-- The octets are options.
abbrev pub HasOptions : List ℕ → Type 0
HasOptions d = (xs : List OptionValue) × OptionsAre d xs

-- ---- OPT records

-- What an OPT record says: the size of the messages that its sender accepts, the high bits of the response code, the
-- version, whether DNSSEC records are wanted, where the octets of the options are in the message and how many, and the
-- options (section 6.1.3).
pub record EdnsValue : Type 0 where
  pub max_payload : ℕ
  pub rcode_high : ℕ
  pub version : ℕ
  pub dnssec_ok : Bool
  pub start : ℕ
  pub len : ℕ
  pub options : List OptionValue

-- A size below 512 is taken as 512 (section 6.2.3).
abbrev pub IsEdns : RecordValue → EdnsValue → Type 0
IsEdns r e =
    (r.owner ≡ []) × (e.max_payload ≡ max (class_code r.class) min_payload) × (e.rcode_high ≡ r.ttl / 2 ^ 24) × (e.version ≡ r.ttl / 2 ^ 16 % 256)
    × (e.dnssec_ok ≡ (bit_at r.ttl 15 == 1)) × (e.start ≡ r.start) × (e.len ≡ r.len) × OptionsAre (data_octets r) e.options

-- The record is not owned by the root, or its data are no options.
abbrev pub FailsOpt : RecordValue → EdnsError → Type 0
FailsOpt r (Decode cause) = ⊥
FailsOpt r OwnerNotRoot = r.owner ≢ []
FailsOpt r CutOption = (r.owner ≡ []) × (¬ (HasOptions (data_octets r)))

-- ---- messages

abbrev pub is_opt : RecordType → Bool
is_opt OPT = true
is_opt kind = false

-- the OPT records among records
abbrev pub opts_in : List RecordValue → List RecordValue
opts_in records = filter (λ r. is_opt r.record_type) records

-- the OPT records outside the additional section
abbrev pub opts_outside : MessageValue → List RecordValue
opts_outside m = opts_in (m.answers ++ m.authorities)

-- All OPT records of a message are in its additional section, and they are these.
abbrev pub OptsAre : MessageValue → List RecordValue → Type 0
OptsAre m opts = (opts_outside m ≡ []) × (opts_in m.additionals ≡ opts)

-- What a message says by EDNS: nothing without an OPT record.
abbrev pub HasEdns : MessageValue → Option EdnsValue → Type 0
HasEdns m None = OptsAre m []
HasEdns m (Some e) = (r : RecordValue) × OptsAre m (r ∷ []) × IsEdns r e

-- the only OPT record of a message, if there is one
abbrev pub IsOnlyOpt : MessageValue → Option RecordValue → Type 0
IsOnlyOpt m None = OptsAre m []
IsOnlyOpt m (Some r) = OptsAre m (r ∷ [])

-- It is there, and it is not broken; or there is none.
abbrev pub HasOpt : MessageValue → Option RecordValue → Type 0
HasOpt m None = OptsAre m []
HasOpt m (Some r) = OptsAre m (r ∷ []) × (e : EdnsValue) × IsEdns r e

-- OPT records are where none may be, or too many: outside the additional section, or two or more in it.
abbrev pub FailsOnlyOpt : MessageValue → EdnsError → Type 0
FailsOnlyOpt m error =
    ((opts_outside m ≢ []) × (error ≡ Decode (RecordNotInAdditionalSection OPT)))
    ⊎ ((opts_outside m ≡ []) × (2 ≤ length (opts_in m.additionals)) × (error ≡ Decode DuplicateEdns))

-- So it is, or the only one breaks a rule.
abbrev pub FailsEdns : MessageValue → EdnsError → Type 0
FailsEdns m error = FailsOnlyOpt m error ⊎ ((r : RecordValue) × OptsAre m (r ∷ []) × FailsOpt r error)

abbrev pub high_bits : Option EdnsValue → ℕ
high_bits None = 0
high_bits (Some e) = e.rcode_high

-- the response code, with the high bits of EDNS (section 6.1.3)
abbrev pub IsResponseCode : MessageValue → ResponseCode → Type 0
IsResponseCode m code =
    (e : Option EdnsValue) × HasEdns m e × (code ≡ response_of_code (response_code m.header.metadata.response_code % 16 + high_bits e * 2 ^ 4))
