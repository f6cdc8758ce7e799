-- How a message that was read is written again with padding (RFC 7830), and why it is not.
use Rattle.std.specs.Prelude.{◌≡◌, ◌≤◌, ◌⊎◌, ◌==◌, ◌||◌, ℕ, ◌/◌, ◌%◌, ◌^◌, if◌then◌else◌, filter, Bool, true, false, Option, Some, None, List, [], ◌∷◌}
use Rattle.dnw_base.specs.DnsClasses.{class_code}
use Rattle.dnw_record.specs.Records.{RecordValue, data_octets}
use Rattle.dnw_message_read.specs.Edns.{EdnsValue, FailsEdns, HasEdns, HasOpt, OptionValue}
use Rattle.dnw_message_read.specs.Messages.{MessageValue}
use Rattle.dnw_message_read.specs.declared.edns.EdnsError.{EdnsError}
use Rattle.dnw_message_writer.specs.Copying.{CopiesBody, CopiesMessage, FailsBody, FailsToAddCopy, FailsToCopyMessage, StopsAmong, copied_form, signs_message, size_with}
use Rattle.dnw_message_writer.specs.Edns.{AddsOpt, FailsToAddOpt, padding_code}
use Rattle.dnw_message_writer.specs.Sets.{AddsSet, cut_off}
use Rattle.dnw_message_writer.specs.States.{for_last, released}
use Rattle.dnw_message_writer.specs.declared.copying.CopyError.{CopyError}
use Rattle.dnw_message_writer.specs.declared.copying.CopyError.TheVariants as errors
use Rattle.dnw_message_writer.specs.declared.edns.Edns.{Edns}
use Rattle.dnw_message_writer.specs.declared.section.Section.TheVariants.{Additionals}
use Rattle.dnw_message_writer.specs.declared.section.WriteError.{WriteError}
use Rattle.dnw_message_writer.specs.declared.state.WriterState.{WriterState}

-- ---- what is padded

-- One of the options is Padding (RFC 7830, section 3).
abbrev pub has_padding : List OptionValue → Bool
has_padding [] = false
has_padding (x ∷ xs) = (x.code == padding_code) || has_padding xs

-- The message is to be padded to a multiple of a block, by its OPT record: it has one, without the option.
abbrev pub IsToPad : MessageValue → ℕ → RecordValue → Type 0
IsToPad x block opt = (1 ≤ block) × (e : EdnsValue) × HasEdns x (Some e) × (has_padding e.options ≡ false) × HasOpt x (Some opt)

-- It is not: there is no block, or no EDNS without the option.
abbrev pub IsNotToPad : MessageValue → ℕ → Type 0
IsNotToPad x block =
    (block ≡ 0) ⊎ ((error : EdnsError) × FailsEdns x error) ⊎ HasEdns x None
    ⊎ ((e : EdnsValue) × HasEdns x (Some e) × (has_padding e.options ≡ true))

-- ---- the records that come last

-- what an OPT record says (RFC 6891, section 6.1.3)
pub record SaysAs (opt : RecordValue) (e : Edns) : Type 0 where
  pub payload : e.max_payload ≡ class_code opt.class
  pub high : e.rcode_high ≡ opt.ttl / 2 ^ 24
  pub version_is : e.version ≡ opt.ttl / 2 ^ 16 % 256
  pub wants : e.dnssec_ok ≡ (opt.ttl / 2 ^ 15 % 2 == 1)
  pub others : e.options.now ≡ data_octets opt

-- An OPT record is added that says the same, with padding, in the octets that were held back for it.
abbrev pub CopiesOpt : RecordValue → ℕ → WriterState → List ℕ → WriterState → List ℕ → Type 0
CopiesOpt opt block w m v n = (e : Edns) × SaysAs opt e × AddsOpt e block (released (size_with opt (data_octets opt)) w) m v n

abbrev pub FailsToCopyOpt : RecordValue → ℕ → WriterState → List ℕ → CopyError → Type 0
FailsToCopyOpt opt block w m error =
    (e : Edns) × SaysAs opt e × (why : WriteError) × FailsToAddOpt e block (released (size_with opt (data_octets opt)) w) m why
    × (error ≡ errors.Write why)

abbrev pub signatures_in : List RecordValue → List RecordValue
signatures_in xs = filter signs_message xs

-- The signatures are added, in the octets that are held back then: no pointer stands for a name of the message before them.
abbrev pub CopiesSignatures : MessageValue → WriterState → List ℕ → WriterState → List ℕ → Type 0
CopiesSignatures x w m v n = AddsSet Additionals copied_form (signatures_in x.additionals) (for_last w.reserved w) m v n

abbrev pub FailsSignatures : MessageValue → WriterState → List ℕ → CopyError → Type 0
FailsSignatures x w m e =
    StopsAmong Additionals copied_form (FailsToAddCopy Additionals) (signatures_in x.additionals) (for_last w.reserved w) m e

abbrev pub CopiesEnds : MessageValue → RecordValue → ℕ → WriterState → List ℕ → WriterState → List ℕ → Type 0
CopiesEnds x opt block w m v n =
    (u : WriterState) × (between : List ℕ) × CopiesOpt opt block w m u between × CopiesSignatures x u between v n

abbrev pub FailsEnds : MessageValue → RecordValue → ℕ → WriterState → List ℕ → CopyError → Type 0
FailsEnds x opt block w m e =
    FailsToCopyOpt opt block w m e
    ⊎ ((u : WriterState) × (between : List ℕ) × CopiesOpt opt block w m u between × FailsSignatures x u between e)

-- ---- messages

-- A message is written again as `CopiesMessage` says, but for its end, which is padded.
pub record CopiesAndPads (x : MessageValue) (max_size block : ℕ) (old : List ℕ) (w : WriterState) (new : List ℕ) : Type 0 where
  pub opt : RecordValue
  pub to_pad : IsToPad x block opt
  pub filled : WriterState
  pub filled_by : List ℕ
  pub missing : Bool
  pub body : CopiesBody x max_size old filled filled_by missing
  pub whole : List ℕ
  pub ends : CopiesEnds x opt block filled filled_by w whole
  pub new_is : new ≡ (if missing then cut_off whole else whole)

abbrev pub CopiesPadded : MessageValue → ℕ → ℕ → List ℕ → WriterState → List ℕ → Type 0
CopiesPadded x max_size block old w new =
    (IsNotToPad x block × CopiesMessage x max_size old w new) ⊎ CopiesAndPads x max_size block old w new

-- It is not, for one of the reasons of `FailsToCopyMessage`, or since its end is not added.
abbrev pub FailsToCopyPadded : MessageValue → ℕ → ℕ → List ℕ → CopyError → Type 0
FailsToCopyPadded x max_size block old e =
    (IsNotToPad x block × FailsToCopyMessage x max_size old e)
    ⊎ ((opt : RecordValue) × IsToPad x block opt
    × (FailsBody x max_size old e
    ⊎ ((w : WriterState) × (m : List ℕ) × (missing : Bool) × CopiesBody x max_size old w m missing × FailsEnds x opt block w m e)))
