-- NSEC records, and what they say of names, as code has them: with names in memory, and numbers of labels in place of names above.
use Rattle.std.specs.Prelude.{◌-◌, ◌<◌, ◌≤◌, ℕ, List, drop, length, map}
use Rattle.dns_names_wire.specs.Words.{RecordType, type_code}
use Rattle.ans_denial.specs.Nsecs.{Empty, Existence, Missing, NsecValue, Owns, Unknown}
use Rattle.ans_denial.specs.declared.nsec.Nsec.{Nsec}
use Rattle.ans_denial.specs.declared.nsec.Existence.{Existence as Found}
use Rattle.ans_denial.specs.declared.nsec.Existence.TheVariants as found

abbrev pub codes : List RecordType → List ℕ
codes types = map type_code types

abbrev pub nsec_seen : Nsec → NsecValue
nsec_seen nsec = record { owner = nsec.owner.now.labels; next = nsec.next.now.labels; types = codes nsec.types.now.types }

-- the last labels of a name, so many
abbrev pub last_labels : List (List ℕ) → ℕ → List (List ℕ)
last_labels name count = drop (length name - count) name

-- the last labels of a name, one less: those of the name above
abbrev pub labels_above : List (List ℕ) → ℕ → List (List ℕ)
labels_above name count = last_labels name (count - 1)

abbrev pub existence_seen : List (List ℕ) → Found → Existence
existence_seen name (found.Unknown reason) = Unknown reason
existence_seen name (found.Owns types) = Owns (codes types.now.types)
existence_seen name found.Empty = Empty
existence_seen name (found.Missing next) = Missing (labels_above name next)

-- The next closer name of a name is the name, or above it, and not the root.
abbrev pub IsNextCloser : List (List ℕ) → Found → Type 0
IsNextCloser name (found.Missing next) = (0 < next) × (next ≤ length name)
IsNextCloser name other = Unit {0}
