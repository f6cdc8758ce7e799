-- The algorithms of TSIG (RFC 8945, section 6): their names, their hash functions, and the lengths of their MACs.
use Rattle.std.specs.Prelude.{◌≡◌, ◌/◌, ℕ, Bool, max, codes, List, [], ◌∷◌, Option, find}
use Rattle.dns_names_wire.specs.Words.{is_same}
use Rattle.ans_tsig.specs.Hmac.{hash_octets}
use Rattle.ans_tsig.specs.declared.hash.Hash.{Hash}
use Rattle.ans_tsig.specs.declared.hash.Hash.TheVariants as hash
use Rattle.ans_tsig.specs.declared.algorithm.Algorithm.{Algorithm}
use Rattle.ans_tsig.specs.declared.algorithm.Algorithm.TheVariants.{HmacMd5, HmacSha1, HmacSha224, HmacSha256, HmacSha256_128, HmacSha384, HmacSha384_192, HmacSha512, HmacSha512_256}

-- the name of an algorithm
abbrev pub algorithm_labels : Algorithm → List (List ℕ)
algorithm_labels HmacMd5 = codes "hmac-md5" ∷ codes "sig-alg" ∷ codes "reg" ∷ codes "int" ∷ []
algorithm_labels HmacSha1 = codes "hmac-sha1" ∷ []
algorithm_labels HmacSha224 = codes "hmac-sha224" ∷ []
algorithm_labels HmacSha256 = codes "hmac-sha256" ∷ []
algorithm_labels HmacSha256_128 = codes "hmac-sha256-128" ∷ []
algorithm_labels HmacSha384 = codes "hmac-sha384" ∷ []
algorithm_labels HmacSha384_192 = codes "hmac-sha384-192" ∷ []
algorithm_labels HmacSha512 = codes "hmac-sha512" ∷ []
algorithm_labels HmacSha512_256 = codes "hmac-sha512-256" ∷ []

-- all algorithms
abbrev pub algorithms : List Algorithm
algorithms = HmacMd5 ∷ HmacSha1 ∷ HmacSha224 ∷ HmacSha256 ∷ HmacSha256_128 ∷ HmacSha384 ∷ HmacSha384_192 ∷ HmacSha512 ∷ HmacSha512_256 ∷ []

-- the algorithm with a name, ignoring case
abbrev pub algorithm_by_name : List (List ℕ) → Option Algorithm
algorithm_by_name name = find (λ a. is_same (algorithm_labels a) name) algorithms

-- its hash function
abbrev pub algorithm_hash : Algorithm → Hash
algorithm_hash HmacMd5 = hash.Md5
algorithm_hash HmacSha1 = hash.Sha1
algorithm_hash HmacSha224 = hash.Sha224
algorithm_hash HmacSha256 = hash.Sha256
algorithm_hash HmacSha256_128 = hash.Sha256
algorithm_hash HmacSha384 = hash.Sha384
algorithm_hash HmacSha384_192 = hash.Sha384
algorithm_hash HmacSha512 = hash.Sha512
algorithm_hash HmacSha512_256 = hash.Sha512

-- the number of octets of its MACs: those of the hash, or as many as its name says, in bits
abbrev pub mac_octets : Algorithm → ℕ
mac_octets HmacSha256_128 = 16
mac_octets HmacSha384_192 = 24
mac_octets HmacSha512_256 = 32
mac_octets a = hash_octets (algorithm_hash a)

-- the fewest octets to which they may be cut: half of the hash, and 10 (RFC 8945, section 5.2.2.1)
abbrev pub least_octets : Algorithm → ℕ
least_octets a = max 10 (hash_octets (algorithm_hash a) / 2)
