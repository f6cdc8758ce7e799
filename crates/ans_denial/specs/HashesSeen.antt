-- NSEC3 records and hashing as code has them.
use Rattle.std.specs.Prelude.{ℕ, List}
use Rattle.dns_names_wire.specs.Words.{nsec3_hash}
use Rattle.ans_denial.specs.Hashes.{HashingValue, Nsec3Value}
use Rattle.ans_denial.specs.Seen.{codes}
use Rattle.ans_denial.specs.declared.nsec3.Hashing.{Hashing}
use Rattle.ans_denial.specs.declared.nsec3.Nsec3.{Nsec3}

abbrev pub nsec3_seen : Nsec3 → Nsec3Value
nsec3_seen nsec = record { own = nsec.own.now; next = nsec.next.now; opt_out = nsec.opt_out; types = codes nsec.types.now.types }

abbrev pub hashing_seen : Hashing → HashingValue
hashing_seen hashing =
    record {
      salt = hashing.salt.now;
      iterations = hashing.iterations;
      most_iterations = hashing.most_iterations;
      most_hashes = hashing.most_hashes;
    }

-- the hash of a name
unfoldable pub hash_by : Hashing → List (List ℕ) → List ℕ
hash_by hashing name = nsec3_hash name hashing.iterations hashing.salt.now
