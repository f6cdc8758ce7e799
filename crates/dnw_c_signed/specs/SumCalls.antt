-- What the functions for C put of the sums of DNSSEC, and why they put nothing.
use Rattle.std.specs.Prelude.{◌≡◌, ◌↔◌, ◌⊎◌, ℕ, Bool, IsTrue, List, length, Result}
use Rattle.dnw_signed.specs.Covers.{Nsec3Covers, NsecCovers}
use Rattle.dnw_signed.specs.Digests.{FailsDsDigest, IsDsDigest}
use Rattle.dnw_signed.specs.HashedNames.{FailsToHash, MayHash, nsec3_hash, nsec3_label}
use Rattle.dnw_signed.specs.KeyTags.{FailsKeyTag, HasKeyTag, key_tag}
use Rattle.dnw_signed.specs.declared.error.DnssecError.{DnssecError}
use Rattle.dnw_signed.specs.declared.error.DnssecError.TheVariants as dnssec
use Rattle.dnw_c_base.specs.Results.{GivesOr, Puts, Refuses}
use Rattle.dnw_c_signed.specs.PutCalls.{PutsSuch}
use Rattle.dnw_c_base.specs.WireForms.{IsFormOf, IsNoForm}
use Rattle.dnw_c_base.specs.declared.failure.Failure.{Failure}
use Rattle.dnw_c_base.specs.declared.failure.Failure.TheVariants as why

-- the failure that stands for why there is no sum
abbrev pub of_dnssec : DnssecError → Failure
of_dnssec dnssec.NotDnskey = why.NotDnskey
of_dnssec (dnssec.Decode error) = why.UnknownAlgorithm
of_dnssec (dnssec.UnknownHash code) = why.UnknownAlgorithm
of_dnssec dnssec.TooManyIterations = why.TooManyIterations
of_dnssec (dnssec.DataTooLong number) = why.DataTooLong
of_dnssec dnssec.Memory = why.NoMemory

-- There is no sum, and this is the failure that stands for why.
abbrev pub FailsAs : (DnssecError → Type 0) → Failure → Type 0
FailsAs Fails failure = (error : DnssecError) × Fails error × (failure ≡ of_dnssec error)

-- the key tag of the data of a DNSKEY, or why there is none
abbrev pub TagsKey : List ℕ → Result ℕ Failure → Type 0
TagsKey dnskey result = GivesOr (λ tag. HasKeyTag dnskey × (tag ≡ key_tag dnskey)) (FailsAs (FailsKeyTag dnskey)) result

-- ---- digests of keys

abbrev pub HasDigest : List ℕ → List ℕ → ℕ → List ℕ → Type 0
HasDigest form dnskey digest_type own = (labels : List (List ℕ)) × IsFormOf form labels × IsDsDigest labels dnskey digest_type own

-- The owner is no wire form; or it is, and there is no digest.
abbrev pub FailsToDigest : List ℕ → List ℕ → ℕ → Failure → Type 0
FailsToDigest form dnskey digest_type failure =
    IsNoForm form failure
    ⊎ ((labels : List (List ℕ)) × IsFormOf form labels × FailsAs (FailsDsDigest dnskey digest_type) failure)

abbrev pub PutsDigest : List ℕ → List ℕ → ℕ → List ℕ → List ℕ → Result ℕ Failure → Type 0
PutsDigest form dnskey digest_type old new result =
    PutsSuch (HasDigest form dnskey digest_type) (FailsToDigest form dnskey digest_type) old new result

-- ---- hashed names

abbrev pub HasHash : List ℕ → ℕ → ℕ → List ℕ → ℕ → List ℕ → Type 0
HasHash form algorithm iterations salt most own =
    (labels : List (List ℕ)) × IsFormOf form labels × MayHash algorithm iterations most × (own ≡ nsec3_hash labels iterations salt)

-- The name is no wire form; or it is, and is not hashed.
abbrev pub FailsToHashForm : List ℕ → ℕ → ℕ → ℕ → Failure → Type 0
FailsToHashForm form algorithm iterations most failure =
    IsNoForm form failure
    ⊎ ((labels : List (List ℕ)) × IsFormOf form labels × FailsAs (FailsToHash algorithm iterations most) failure)

-- These octets of the hash of a name are put.
abbrev pub PutsOfHash : (List ℕ → List ℕ) → List ℕ → ℕ → ℕ → List ℕ → ℕ → List ℕ → List ℕ → Result ℕ Failure → Type 0
PutsOfHash octets form algorithm iterations salt most old new result =
    ((own : List ℕ) × HasHash form algorithm iterations salt most own × Puts (octets own) (length (octets own)) old new result)
    ⊎ Refuses (FailsToHashForm form algorithm iterations most) old new result

-- the hash itself, and the label of the name that it makes
abbrev pub PutsHash : List ℕ → ℕ → ℕ → List ℕ → ℕ → List ℕ → List ℕ → Result ℕ Failure → Type 0
PutsHash form algorithm iterations salt most old new result = PutsOfHash (λ own. own) form algorithm iterations salt most old new result

abbrev pub PutsHashLabel : List ℕ → ℕ → ℕ → List ℕ → ℕ → List ℕ → List ℕ → Result ℕ Failure → Type 0
PutsHashLabel form algorithm iterations salt most old new result = PutsOfHash nsec3_label form algorithm iterations salt most old new result

-- ---- names that a record covers

-- The owner, the next name and a name, by their wire forms, and whether the record covers the name.
abbrev pub CoversName : List ℕ → List ℕ → List ℕ → Bool → Type 0
CoversName owner next name covers =
    (a : List (List ℕ)) × (b : List (List ℕ)) × (c : List (List ℕ)) × IsFormOf owner a × IsFormOf next b × IsFormOf name c
    × (IsTrue covers ↔ NsecCovers a b c)

-- One of them is no wire form: the first that is none decides.
abbrev pub FailsToCover : List ℕ → List ℕ → List ℕ → Failure → Type 0
FailsToCover owner next name failure =
    IsNoForm owner failure
    ⊎ ((a : List (List ℕ)) × IsFormOf owner a × IsNoForm next failure)
    ⊎ ((a : List (List ℕ)) × (b : List (List ℕ)) × IsFormOf owner a × IsFormOf next b × IsNoForm name failure)

-- It is said whether an NSEC record covers a name, or why not.
abbrev pub SaysIfCovered : List ℕ → List ℕ → List ℕ → Result Bool Failure → Type 0
SaysIfCovered owner next name result = GivesOr (CoversName owner next name) (FailsToCover owner next name) result

-- It is said whether an NSEC3 record covers a hash.
abbrev pub SaysIfHashCovered : List ℕ → List ℕ → List ℕ → Result Bool Failure → Type 0
SaysIfHashCovered own next hash result = GivesOr (λ covers. IsTrue covers ↔ Nsec3Covers own next hash) (λ _. ⊥) result
