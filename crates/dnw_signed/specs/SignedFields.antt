-- The octets of an RRSIG that its signature covers: its data without the signature (RFC 4034, sections 3.1 and 3.1.8.1).
use Rattle.std.specs.Prelude.{◌≡◌, ◌≤◌, ℕ, List, ◌++◌, length}
use Rattle.dnw_base.specs.RecordTypes.{type_code}
use Rattle.dnw_base.specs.declared.record_type.RecordType.TheVariants.{RRSIG}
use Rattle.dnw_base.specs.Names.{AreLabels, lower, wire}
use Rattle.dnw_data.specs.Signature.{before_signer}
use Rattle.dnw_record.specs.DataPieces.{DataValue}
use Rattle.dnw_signed.specs.declared.error.CanonicalError.{CanonicalError}
use Rattle.dnw_signed.specs.declared.error.CanonicalError.TheVariants.{Memory, NotRrsig}

-- The data are those of an RRSIG, and are not left out (RFC 2136, section 2.4).
abbrev pub IsRrsig : DataValue → Type 0
IsRrsig x = (type_code x.record_type ≡ type_code RRSIG) × (before_signer ≤ length x.octets)

-- The data are the fixed fields, the signer's name and the signature. What is signed are the fixed fields and the name in lower
-- case.
pub record IsSignedFields (x : DataValue) (octets : List ℕ) : Type 0 where
  pub rrsig : IsRrsig x
  pub fixed : List ℕ
  pub size : length fixed ≡ before_signer
  pub signer : List (List ℕ)
  pub are_labels : AreLabels signer
  pub signature : List ℕ
  pub whole : x.octets ≡ fixed ++ (wire signer ++ signature)
  pub signed : octets ≡ fixed ++ wire (lower signer)

-- The data are not those of an RRSIG; or memory ran out, and they are.
abbrev pub FailsSignedFields : DataValue → CanonicalError → Type 0
FailsSignedFields x NotRrsig = ¬ (IsRrsig x)
FailsSignedFields x Memory = IsRrsig x
FailsSignedFields x error = ⊥
