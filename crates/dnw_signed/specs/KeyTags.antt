-- The key tag of a DNSKEY (RFC 4034, appendix B).
use Rattle.std.specs.Prelude.{◌≡◌, ◌≤◌, ℕ, ◌+◌, ◌-◌, ◌*◌, ◌/◌, ◌%◌, ◌==◌, if◌then◌else◌, List, [], ◌∷◌, length, get_or}
use Rattle.dnw_base.specs.Limits.{max_message}
use Rattle.dnw_signed.specs.declared.error.DnssecError.{DnssecError}
use Rattle.dnw_signed.specs.declared.error.DnssecError.TheVariants.{NotDnskey}

-- the octets before the key: the flags, the protocol and the algorithm (RFC 4034, section 2.1)
abbrev pub before_key : ℕ
before_key = 4

-- Octets that can be the data of a DNSKEY.
abbrev pub IsDnskey : List ℕ → Type 0
IsDnskey octets = (before_key ≤ length octets) × (length octets ≤ max_message)

-- the algorithm of a DNSKEY (RFC 4034, section 2.1.3)
abbrev pub algorithm_of : List ℕ → ℕ
algorithm_of octets = get_or octets 3 0

-- RSA/MD5 (RFC 4034, appendix A.1)
abbrev pub rsa_md5 : ℕ
rsa_md5 = 1

-- the octets of a modulus that its key tag is made of
abbrev pub modulus_end : ℕ
modulus_end = 3

-- Octets that have a key tag: under RSA/MD5 the key has three octets or more.
abbrev pub HasKeyTag : List ℕ → Type 0
HasKeyTag octets = IsDnskey octets × (algorithm_of octets ≡ rsa_md5 → before_key + modulus_end ≤ length octets)

-- the sum of the numbers that each two octets are, the first one high, and of a last octet alone as one before a zero
abbrev pub word_sum : List ℕ → ℕ
word_sum [] = 0
word_sum (high ∷ []) = high * 256
word_sum (high ∷ low ∷ octets) = high * 256 + low + word_sum octets

-- the tag under all algorithms but RSA/MD5: the low 16 bits of the sum, once its high ones are added to them
abbrev pub sum_tag : List ℕ → ℕ
sum_tag octets = (word_sum octets + word_sum octets / 65536) % 65536

-- the tag under RSA/MD5: the high 16 of the low 24 bits of the modulus, which the data end in (RFC 4034, appendix B.1)
abbrev pub modulus_tag : List ℕ → ℕ
modulus_tag octets = get_or octets (length octets - 3) 0 * 256 + get_or octets (length octets - 2) 0

abbrev pub key_tag : List ℕ → ℕ
key_tag octets = if algorithm_of octets == rsa_md5 then modulus_tag octets else sum_tag octets

-- why octets have no key tag
abbrev pub FailsKeyTag : List ℕ → DnssecError → Type 0
FailsKeyTag octets NotDnskey = ¬ (HasKeyTag octets)
FailsKeyTag octets error = ⊥
