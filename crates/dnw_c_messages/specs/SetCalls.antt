-- How the functions for C add the records of a set, or an OPT record, and why one adds nothing.
use Rattle.std.specs.Prelude.{◌≡◌, ◌≢◌, ◌⊎◌, ℕ, min, max, Bool, true, false, List, take, Result, MatchResult}
use Rattle.dnw_base.specs.Limits.{min_payload}
use Rattle.dnw_c_base.specs.WireForms.{IsFormOf, IsNoForm}
use Rattle.dnw_c_base.specs.declared.failure.Failure.{Failure}
use Rattle.dnw_c_base.specs.declared.failure.Failure.TheVariants as why
use Rattle.dnw_message_writer.specs.Edns.{AddsOpt, FailsToAddOpt, most_block}
use Rattle.dnw_message_writer.specs.Listed.{FailsListed, ListsData, data_form}
use Rattle.dnw_message_writer.specs.Sets.{AddsSet, CutsOff}
use Rattle.dnw_message_writer.specs.States.{released}
use Rattle.dnw_message_writer.specs.declared.edns.Edns.{Edns}
use Rattle.dnw_message_writer.specs.declared.listed.DataError.{DataError}
use Rattle.dnw_message_writer.specs.declared.listed.DataError.TheVariants as errors
use Rattle.dnw_message_writer.specs.declared.section.Section.{Section}
use Rattle.dnw_message_writer.specs.declared.section.WriteError.{WriteError}
use Rattle.dnw_message_writer.specs.declared.state.WriterState.{WriterState}
use Rattle.dnw_c_messages.specs.WriterCalls.{IsNoNumber, IsSectionNumber, of_write}

-- ---- sets

-- which failure stands for why data are not added
abbrev pub failure_of_data : DataError → Failure
failure_of_data errors.List = why.BadItem
failure_of_data errors.Data = why.BadData
failure_of_data (errors.Write error) = of_write error

-- The records of a set are added to a section: one for each of the data that are listed.
abbrev pub AddsSetTo : Section → List ℕ → ℕ → ℕ → ℕ → List ℕ → WriterState → List ℕ → WriterState → List ℕ → Type 0
AddsSetTo s form record_type class ttl set before old after new =
    (owner : List (List ℕ)) × (ds : List (List ℕ)) × IsFormOf form owner × ListsData set ds
    × AddsSet s (data_form owner record_type class ttl) ds before old after new

abbrev pub FailsToAddSetTo : Section → List ℕ → ℕ → ℕ → ℕ → List ℕ → WriterState → List ℕ → Failure → Type 0
FailsToAddSetTo s form record_type class ttl set before old failure =
    IsNoForm form failure
    ⊎ ((owner : List (List ℕ)) × (error : DataError) × IsFormOf form owner × FailsListed s owner record_type class ttl set before old error
    × (failure ≡ failure_of_data error))

-- So they are, if the section is given by its number.
abbrev pub AddsSetOf : ℕ → List ℕ → ℕ → ℕ → ℕ → List ℕ → WriterState → List ℕ → WriterState → List ℕ → Type 0
AddsSetOf number form record_type class ttl set before old after new =
    (s : Section) × IsSectionNumber number s × AddsSetTo s form record_type class ttl set before old after new

abbrev pub FailsToAddSetOf : ℕ → List ℕ → ℕ → ℕ → ℕ → List ℕ → WriterState → List ℕ → Failure → Type 0
FailsToAddSetOf number form record_type class ttl set before old failure =
    (IsNoNumber number × (failure ≡ why.BadItem))
    ⊎ ((s : Section) × IsSectionNumber number s × FailsToAddSetTo s form record_type class ttl set before old failure)

-- The message is unchanged, but for TC if a set has no room that it has to have (RFC 2181, section 9).
pub record IsKeptButTc (is_required : Bool) (failure : Failure) (end : ℕ) (old new : List ℕ) : Type 0 where
  pub cut : is_required ≡ true → failure ≡ why.MessageTooLong → CutsOff end old new
  pub kept : (is_required ≡ false) ⊎ (failure ≢ why.MessageTooLong) → take end new ≡ take end old

abbrev pub AddsSetOr : Bool → (WriterState → List ℕ → WriterState → List ℕ → Type 0) → (WriterState → List ℕ → Failure → Type 0)
    → WriterState → List ℕ → WriterState → List ℕ → Result (Unit {0}) Failure → Type 0
AddsSetOr is_required Adds Fails before old after new result =
    MatchResult result (λ _. Adds before old after new)
    (λ failure. Fails before old failure × (after ≡ before) × IsKeptButTc is_required failure before.end old new)

-- ---- OPT records

-- An OPT record is added, with so many of the octets that are held back.
abbrev pub AddsOptOf : ℕ → Edns → ℕ → WriterState → List ℕ → WriterState → List ℕ → Type 0
AddsOptOf held e block before old after new = AddsOpt e block (released held before) old after new

abbrev pub FailsToAddOptOf : ℕ → Edns → ℕ → WriterState → List ℕ → Failure → Type 0
FailsToAddOptOf held e block before old failure =
    (error : WriteError) × FailsToAddOpt e block (released held before) old error × (failure ≡ of_write error)

-- what is said by EDNS
pub record Says (max_payload rcode_high version : ℕ) (dnssec_ok : Bool) (options : List ℕ) (e : Edns) : Type 0 where
  pub payload : e.max_payload ≡ max max_payload min_payload
  pub high : e.rcode_high ≡ rcode_high
  pub version_is : e.version ≡ version
  pub wants : e.dnssec_ok ≡ dnssec_ok
  pub others : e.options.now ≡ options

abbrev pub AddsEdns : ℕ → ℕ → ℕ → ℕ → Bool → List ℕ → ℕ → WriterState → List ℕ → WriterState → List ℕ → Type 0
AddsEdns held max_payload rcode_high version dnssec_ok options block before old after new =
    (e : Edns) × Says max_payload rcode_high version dnssec_ok options e × AddsOptOf held e (min block most_block) before old after new

abbrev pub FailsToAddEdns : ℕ → ℕ → ℕ → ℕ → Bool → List ℕ → ℕ → WriterState → List ℕ → Failure → Type 0
FailsToAddEdns held max_payload rcode_high version dnssec_ok options block before old failure =
    (e : Edns) × Says max_payload rcode_high version dnssec_ok options e × FailsToAddOptOf held e (min block most_block) before old failure
