-- What hashers and MACs in the making were fed with.
use Rattle.std.specs.Prelude.{◌≡◌, ℕ, List, ◌++◌}
use Rattle.md5.specs.Md5.{Holds as HoldsMd5}
use Rattle.sha1.specs.Sha1.{Holds as HoldsSha1}
use Rattle.sha2.specs.Hashers.{Holds224, Holds256, Holds384, Holds512}
use Rattle.ans_tsig.specs.Hmac.{block_key, with_pad}
use Rattle.ans_tsig.specs.declared.hash.Hash.{Hash}
use Rattle.ans_tsig.specs.declared.hash.Hash.TheVariants as hash
use Rattle.ans_tsig.specs.declared.hasher.Hasher.{Hasher}
use Rattle.ans_tsig.specs.declared.hasher.Hasher.TheVariants as hasher
use Rattle.ans_tsig.specs.declared.hmac.Hmac.{Hmac}

-- the hash function of a hasher
abbrev pub hash_kind : Hasher → Hash
hash_kind (hasher.Md5 h) = hash.Md5
hash_kind (hasher.Sha1 h) = hash.Sha1
hash_kind (hasher.Sha224 h) = hash.Sha224
hash_kind (hasher.Sha256 h) = hash.Sha256
hash_kind (hasher.Sha384 h) = hash.Sha384
hash_kind (hasher.Sha512 h) = hash.Sha512

-- The hasher was fed with this text.
abbrev pub Hashes : Hasher → List ℕ → Type 0
Hashes (hasher.Md5 h) text = HoldsMd5 h text
Hashes (hasher.Sha1 h) text = HoldsSha1 h text
Hashes (hasher.Sha224 h) text = Holds224 h text
Hashes (hasher.Sha256 h) text = Holds256 h text
Hashes (hasher.Sha384 h) text = Holds384 h text
Hashes (hasher.Sha512 h) text = Holds512 h text

-- This MAC in the making is by this hash function and key, and was fed with this text.
pub record FeedsHmac (m : Hmac) (hash : Hash) (key text : List ℕ) : Type 0 where
  pub inner_kind : hash_kind m.inner ≡ hash
  pub outer_kind : hash_kind m.outer ≡ hash
  pub inner_fed : Hashes m.inner (with_pad 54 (block_key hash key) ++ text)
  pub outer_fed : Hashes m.outer (with_pad 92 (block_key hash key))
