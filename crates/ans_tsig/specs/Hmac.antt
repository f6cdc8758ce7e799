-- HMAC (RFC 2104, section 2) by the hash functions of TSIG (RFC 8945, section 6).
use Rattle.std.specs.Prelude.{ℕ, ◌-◌, nat_le, if◌then◌else◌, List, ◌++◌, length, map, replicate, bit_xor}
use Rattle.md5.specs.Md5.{md5}
use Rattle.sha1.specs.Sha1.{sha1}
use Rattle.sha2.specs.Sha256.{sha224, sha256}
use Rattle.sha2.specs.Sha512.{sha384, sha512}
use Rattle.ans_tsig.specs.declared.hash.Hash.{Hash}
use Rattle.ans_tsig.specs.declared.hash.Hash.TheVariants.{Md5, Sha1, Sha224, Sha256, Sha384, Sha512}

-- the hash of octets
abbrev pub hashed : Hash → List ℕ → List ℕ
hashed Md5 octets = md5 octets
hashed Sha1 octets = sha1 octets
hashed Sha224 octets = sha224 octets
hashed Sha256 octets = sha256 octets
hashed Sha384 octets = sha384 octets
hashed Sha512 octets = sha512 octets

-- the number of octets of a hash
abbrev pub hash_octets : Hash → ℕ
hash_octets Md5 = 16
hash_octets Sha1 = 20
hash_octets Sha224 = 28
hash_octets Sha256 = 32
hash_octets Sha384 = 48
hash_octets Sha512 = 64

-- the number of octets of a block of what is hashed: `B` of the section
abbrev pub block_octets : Hash → ℕ
block_octets Sha384 = 128
block_octets Sha512 = 128
block_octets hash = 64

-- a key that is longer than a block is hashed
abbrev pub short_key : Hash → List ℕ → List ℕ
short_key hash key = if nat_le (length key) (block_octets hash) then key else hashed hash key

-- a key with zeros after it, up to a block
abbrev pub block_key : Hash → List ℕ → List ℕ
block_key hash key = short_key hash key ++ replicate (block_octets hash - length (short_key hash key)) 0

-- the exclusive or of each octet with the one that is repeated in `ipad` or `opad`
abbrev pub with_pad : ℕ → List ℕ → List ℕ
with_pad octet key = map (λ x. bit_xor x octet) key

-- the MAC of a text: `H(K XOR opad, H(K XOR ipad, text))`
unfoldable pub hmac : Hash → List ℕ → List ℕ → List ℕ
hmac hash key text = hashed hash (with_pad 92 (block_key hash key) ++ hashed hash (with_pad 54 (block_key hash key) ++ text))
