-- What of the data of an RRSIG is before the name of its signer (RFC 4034, section 3.1).
use Rattle.std.specs.Prelude.{ℕ}

-- the octets before that name: the type covered, the algorithm, the labels, the original time to live, the expiration, the inception
-- and the key tag
abbrev pub before_signer : ℕ
before_signer = 18
