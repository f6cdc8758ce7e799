-- The digest of a DNSKEY that a DS record has (RFC 4034, section 5.1.4).
use Rattle.std.specs.Prelude.{◌≡◌, ℕ, ◌==◌, if◌then◌else◌, List, ◌++◌, Option, Some, None}
use Rattle.sha1.specs.Sha1.{sha1}
use Rattle.sha2.specs.Sha256.{sha256}
use Rattle.sha2.specs.Sha512.{sha384}
use Rattle.dnw_base.specs.Names.{lower, wire}
use Rattle.dnw_base.specs.declared.error.DecodeError.TheVariants.{UnknownDigestAlgorithm}
use Rattle.dnw_signed.specs.declared.error.DnssecError.{DnssecError}
use Rattle.dnw_signed.specs.declared.error.DnssecError.TheVariants.{Decode, NotDnskey}
use Rattle.dnw_signed.specs.KeyTags.{IsDnskey}

-- the digest of octets by the digest type of DS records: SHA-1 (RFC 4034, appendix A.2), SHA-256 (RFC 4509, section 5) and
-- SHA-384 (RFC 6605, section 6)
abbrev pub ds_hash : ℕ → List ℕ → Option (List ℕ)
ds_hash digest_type octets =
    if digest_type == 1 then Some (sha1 octets)
    else if digest_type == 2 then Some (sha256 octets)
    else if digest_type == 4 then Some (sha384 octets)
    else None

-- what is hashed: the canonical form of the owner, and the data of the DNSKEY
abbrev pub ds_input : List (List ℕ) → List ℕ → List ℕ
ds_input owner octets = wire (lower owner) ++ octets

-- These are the octets of the digest.
abbrev pub IsDsDigest : List (List ℕ) → List ℕ → ℕ → List ℕ → Type 0
IsDsDigest owner octets digest_type digest = IsDnskey octets × (ds_hash digest_type (ds_input owner octets) ≡ Some digest)

-- There is none: the octets are not those of a DNSKEY, or they are and the digest type is not known.
abbrev pub FailsDsDigest : List ℕ → ℕ → DnssecError → Type 0
FailsDsDigest octets digest_type NotDnskey = ¬ (IsDnskey octets)
FailsDsDigest octets digest_type (Decode (UnknownDigestAlgorithm code)) = IsDnskey octets × (code ≡ digest_type) × (ds_hash digest_type octets ≡ None)
FailsDsDigest octets digest_type error = ⊥
