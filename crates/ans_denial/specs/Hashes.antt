-- NSEC3 records (RFC 5155, section 3), and which names they say exist (sections 8.3 to 8.8).
use Rattle.std.specs.Prelude.{◌&&◌, ◌||◌, ◌+◌, ◌-◌, ℕ, Bool, false, nat_eq, nat_lt, not, if◌then◌else◌, List, [], ◌∷◌, length, Option, Some, None, unwrap_or, option_map}
use Rattle.std.specs.Cmp.Lexicographic.{pointwise}
use Rattle.std.specs.List.{find}
use Rattle.std.specs.Ordering.{is_lt}
use Rattle.dns_names_wire.specs.Words.{is_in, nsec3_hash, octets_cmp}
use Rattle.ans_denial.specs.Denials.{denied_by}
use Rattle.ans_denial.specs.Nsecs.{Existence, Missing, Owns, Unknown, sends_below}
use Rattle.ans_denial.specs.Seen.{last_labels}
use Rattle.ans_denial.specs.declared.denial.Denial.{Denial}
use Rattle.ans_denial.specs.declared.denial.Denial.TheVariants.{Nothing}
use Rattle.ans_denial.specs.declared.denial.Reason.TheVariants.{BelowDelegation, NoRecord, OptOut, TooManyHashes, TooManyIterations}

-- An NSEC3 record: the hash of its owner's name, the next hash, whether delegations between may be left out, and the codes of the types
-- that it lists.
pub record Nsec3Value : Type 0 where
  pub own : List ℕ
  pub next : List ℕ
  pub opt_out : Bool
  pub types : List ℕ

-- The hash is between the record's own and the next one. After the last one is the first (RFC 5155, section 3.1.7).
unfoldable pub covers_hash : List ℕ → Nsec3Value → Bool
covers_hash hash nsec =
    if is_lt (octets_cmp nsec.own nsec.next) then is_lt (octets_cmp nsec.own hash) && is_lt (octets_cmp hash nsec.next)
    else is_lt (octets_cmp nsec.own hash) || is_lt (octets_cmp hash nsec.next)

-- The hash is the record's own.
unfoldable pub has_hash : List ℕ → Nsec3Value → Bool
has_hash hash nsec = pointwise nat_eq nsec.own hash

-- What is said of the name that is one label longer than this one, which exists. If delegations may be left out, it may be one of them
-- (RFC 5155, section 8.3; RFC 6840, section 5.1).
unfoldable pub said_next : List (List ℕ) → Option Nsec3Value → Existence
said_next closest (Some nsec) = if nsec.opt_out then Unknown OptOut else Missing closest
said_next closest None = Unknown NoRecord

-- the same, by the record of the name that exists: that of a delegation, or of a name with a DNAME record, says nothing of what is below
-- (RFC 5155, section 8.3)
unfoldable pub said_below : List (List ℕ) → Nsec3Value → Option Nsec3Value → Existence
said_below closest nsec next = if sends_below nsec.types then Unknown BelowDelegation else said_next closest next

-- a record covers the name, and says that none is left out
unfoldable pub covers_whole : Option Nsec3Value → Bool
covers_whole (Some nsec) = not nsec.opt_out
covers_whole None = false

module _ (hash : List (List ℕ) → List ℕ) (nsecs : List Nsec3Value) where
  -- the record of a name
  abbrev pub own_record : List (List ℕ) → Option Nsec3Value
  own_record name = find (has_hash (hash name)) nsecs

  -- the record that covers a name
  abbrev pub covering_record : List (List ℕ) → Option Nsec3Value
  covering_record name = find (covers_hash (hash name)) nsecs

  -- What is said of a name that has no record: the first name above it that has one is the closest encloser, if the next closer name, one
  -- label longer, is covered (RFC 5155, section 8.3).
  unfoldable pub climb : List (List ℕ) → List (List ℕ) → Existence
  climb apex [] = Unknown NoRecord
  climb apex (label ∷ above) =
      if is_in apex above
      then unwrap_or (option_map (λ nsec. said_below above nsec (covering_record (label ∷ above))) (own_record above)) (climb apex above)
      else Unknown NoRecord

  -- what records say of a name of the zone with this apex
  unfoldable pub hashed_existence : List (List ℕ) → List (List ℕ) → Existence
  hashed_existence apex name = unwrap_or (option_map (λ nsec. Owns nsec.types) (own_record name)) (climb apex name)

  -- Beside the answer of a wildcard whose closest encloser has so many labels, the next closer name is covered, and no delegation may be left
  -- out there. So no name nearer to this one exists (RFC 5155, section 8.8).
  unfoldable pub expands : List (List ℕ) → List (List ℕ) → ℕ → Bool
  expands apex name labels =
      nat_lt labels (length name)
      && (is_in apex (last_labels name labels) && covers_whole (covering_record (last_labels name (labels + 1))))

-- ---- what is proved

-- How names are hashed, and how much of it the caller allows (RFC 5155, section 3.1; RFC 9276, section 3.2).
pub record HashingValue : Type 0 where
  pub salt : List ℕ
  pub iterations : ℕ
  pub most_iterations : ℕ
  pub most_hashes : ℕ

-- How many names are hashed at most: the name and those above it, and then a wildcard and the name above it.
unfoldable pub hash_count : List (List ℕ) → List (List ℕ) → ℕ
hash_count name apex = length name - length apex + 3

-- What NSEC3 records of the zone with this apex prove. If that takes more than the caller allows, it is nothing.
unfoldable pub denies_by_hashes : List Nsec3Value → HashingValue → List (List ℕ) → ℕ → List (List ℕ) → Denial
denies_by_hashes nsecs hashing name code apex =
    if nat_lt hashing.most_iterations hashing.iterations then Nothing TooManyIterations
    else if nat_lt hashing.most_hashes (hash_count name apex) then Nothing TooManyHashes
    else denied_by (hashed_existence (λ n. nsec3_hash n hashing.iterations hashing.salt) nsecs apex) name code apex

-- The same beside the answer of a wildcard, for which one name is hashed.
unfoldable pub expands_by_hashes : List Nsec3Value → HashingValue → List (List ℕ) → ℕ → List (List ℕ) → Bool
expands_by_hashes nsecs hashing name labels apex =
    if nat_lt hashing.most_iterations hashing.iterations then false
    else expands (λ n. nsec3_hash n hashing.iterations hashing.salt) nsecs apex name labels
