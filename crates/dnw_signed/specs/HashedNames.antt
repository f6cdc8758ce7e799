-- Hashed names, as NSEC3 has them (RFC 5155, section 5).
use Rattle.std.specs.Prelude.{◌≡◌, ◌≢◌, ◌≤◌, ◌<◌, ℕ, zero, suc, List, ◌++◌, map}
use Rattle.std.specs.Char.{to_ascii_lowercase}
use Rattle.sha1.specs.Sha1.{sha1}
use Rattle.dnw_base.specs.Names.{lower, wire}
use Rattle.dnw_zone_values.specs.Base32.{base32_text}
use Rattle.dnw_base.specs.declared.error.DecodeError.TheVariants.{UnknownNsec3HashAlgorithm}
use Rattle.dnw_signed.specs.declared.error.DnssecError.{DnssecError}
use Rattle.dnw_signed.specs.declared.error.DnssecError.TheVariants.{Decode, TooManyIterations}

-- SHA-1 is hash algorithm 1, and the only one (RFC 5155, section 11)
abbrev pub nsec3_sha1 : ℕ
nsec3_sha1 = 1

-- the hash of octets with a salt, and as often again as the iterations say: `IH` of the section
abbrev pub iterated_hash : List ℕ → List ℕ → ℕ → List ℕ
iterated_hash salt octets zero = sha1 (octets ++ salt)
iterated_hash salt octets (suc k) = sha1 (iterated_hash salt octets k ++ salt)

-- the hashed name: the iterated hash of the canonical form of a name
abbrev pub nsec3_hash : List (List ℕ) → ℕ → List ℕ → List ℕ
nsec3_hash owner iterations salt = iterated_hash salt (wire (lower owner)) iterations

-- A name is hashed by this algorithm with so many iterations, of which at most so many are allowed.
abbrev pub MayHash : ℕ → ℕ → ℕ → Type 0
MayHash algorithm iterations most = (algorithm ≡ nsec3_sha1) × (iterations ≤ most)

-- why it is not
abbrev pub FailsToHash : ℕ → ℕ → ℕ → DnssecError → Type 0
FailsToHash algorithm iterations most (Decode (UnknownNsec3HashAlgorithm code)) = (code ≡ algorithm) × (algorithm ≢ nsec3_sha1)
FailsToHash algorithm iterations most TooManyIterations = (algorithm ≡ nsec3_sha1) × (most < iterations)
FailsToHash algorithm iterations most error = ⊥

-- the first label of the owner of an NSEC3 record: the hashed name in base 32 with the extended hex alphabet, in lower case
-- (RFC 5155, section 3; RFC 4648, section 7)
abbrev pub nsec3_label : List ℕ → List ℕ
nsec3_label hash = map to_ascii_lowercase (base32_text hash)
