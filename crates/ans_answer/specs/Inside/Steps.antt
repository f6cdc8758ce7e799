-- Answers that are made name by name, as code has them.
use Rattle.std.specs.Prelude.{◌≡◌, ℕ, true, false, List, [], ◌∷◌, ◌++◌, length, None}
use Rattle.dns_names_wire.specs.Words.{NameValue, RecordValue, dname_code}
use Rattle.ans_store.specs.Zones.{ZoneValue}
use Rattle.ans_store.specs.declared.lookup.Node.{Node}
use Rattle.ans_answer.specs.Answers.{Lead, ZoneAnswer, is_met, begun_with, led, said, silent}
use Rattle.ans_answer.specs.Seen.{all_labels, answer_seen, numbered_name, names_of, parts_seen}
use Rattle.ans_answer.specs.Targets.{Next, To}
use Rattle.ans_answer.specs.declared.answer.Answer.{Answer}
use Rattle.ans_answer.specs.declared.answer.Part.{Part}
use Rattle.ans_answer.specs.declared.answer.Part.TheVariants as parts
use Rattle.ans_answer.specs.declared.target.Next.{Next as FoundNext}
use Rattle.ans_answer.specs.declared.target.Next.TheVariants as nexts

-- what is said of a name, the last of those that were asked for
abbrev pub Others : Type 0
Others = List (List (List ℕ)) → List (List ℕ) → ZoneAnswer

-- So many aliases were followed, and nothing else is there.
pub record IsUpTo (answer : Answer) (number : ℕ) : Type 0 where
  pub names : length answer.names.items ≡ number
  pub data_none : answer.data ≡ None
  pub authority : answer.authority ≡ None

-- The answer ends as another one does, after the parts of aliases that it had.
pub record EndsAs (records : List RecordValue) (asked : List (List ℕ)) (old new : Answer) (end : ZoneAnswer) : Type 0 where
  pub added : List NameValue
  pub names : new.names.items ≡ old.names.items ++ added
  pub says : answer_seen records asked new ≡ begun_with (parts_seen records (names_of asked new) old.aliases.items) end

-- The answer has one name more, to which this leads, and which was not asked for before.
pub record TurnsTo (asked : List (List ℕ)) (old new : Answer) (next : Next) (name : NameValue) : Type 0 where
  pub names : new.names.items ≡ old.names.items ++ name ∷ []
  pub same : new.aliases ≡ old.aliases
  pub data_none : new.data ≡ None
  pub authority : new.authority ≡ None
  pub leads : next ≡ To name.labels
  pub not_met : is_met (names_of asked old) name.labels ≡ false

-- The answer ends with what this leads to, whatever is said of other names. A name that was asked for before is kept.
pub record EndsTurn (asked : List (List ℕ)) (old new : Answer) (next : Next) : Type 0 where
  pub added : List NameValue
  pub names : new.names.items ≡ old.names.items ++ added
  pub target : (target : List (List ℕ)) → next ≡ To target → (name : NameValue) × (added ≡ name ∷ []) × (name.labels ≡ target)
  pub same : new.aliases ≡ old.aliases
  pub data_none : new.data ≡ None
  pub authority : new.authority ≡ None
  pub authoritative : new.is_authoritative ≡ true
  pub says : (others : Others) → led others (names_of asked old) next ≡ silent new.rcode

-- what the answer section has of an alias by a DNAME record
abbrev pub link_parts : ℕ → Node → FoundNext → List Part
link_parts number node (nexts.To name) = parts.Kept node dname_code ∷ parts.Made number node ∷ []
link_parts number node nexts.Nowhere = parts.Kept node dname_code ∷ []
link_parts number node nexts.TooLong = parts.Kept node dname_code ∷ []

-- The answer has the parts of an alias more, and the name that it leads to.
pub record LeadsOn (zone : ZoneValue) (asked : List (List ℕ)) (code number : ℕ) (lead : Lead) (old new : Answer) (name : NameValue) : Type 0 where
  pub added : List Part
  pub names : new.names.items ≡ old.names.items ++ name ∷ []
  pub has : new.aliases.items ≡ old.aliases.items ++ added
  pub data_none : new.data ≡ None
  pub authority : new.authority ≡ None
  pub says : (others : Others) (more : List NameValue)
      → said others zone code (names_of asked old) (numbered_name (names_of asked old) number) lead
      ≡ begun_with (parts_seen zone.records (asked ∷ all_labels (new.names.items ++ more)) added) (others (names_of asked new) name.labels)

-- The answer ends with what is said of the last name that was asked for, whatever is said of other names.
abbrev pub IsSaid : ZoneValue → List (List ℕ) → ℕ → ℕ → Lead → Answer → Answer → Type 0
IsSaid zone asked code number lead old new =
    (others : Others) → EndsAs zone.records asked old new (said others zone code (names_of asked old) (numbered_name (names_of asked old) number) lead)
