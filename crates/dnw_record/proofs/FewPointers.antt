-- Data follow few pointers: those of each name are no more than the octets up to the data's end, and there are two names at most.
use Rattle.std.proofs.Common.{◌≡◌, ℕ, zero, suc, ◌+◌, ◌-◌, ◌≤◌, Bool, true, false, ◌==◌, Option, Some, None, List, [], ◌∷◌, ◌++◌, length, take, inl, inr, refl, ap, subst, arith}
use Rattle.std.specs.List.{AllByRecursion}
use Rattle.std.proofs.lemmas.Bool.{cases_Bool}
use Rattle.std.proofs.lemmas.List.{length-take}
use Rattle.dnw_base.specs.Decoder.{Decoder}
use Rattle.dnw_base.specs.DnsClasses.{class_code}
use Rattle.dnw_base.specs.RecordTypes.{type_code}
use Rattle.dnw_name_read.proofs.Counts.{Reads_back, Reads_own}
use Rattle.dnw_data.specs.declared.kind.Kind.{Kind}
use Rattle.dnw_data.specs.declared.kind.Kind.TheVariants.{Name}
use Rattle.dnw_data.specs.Fields.{TakesField}
use Rattle.dnw_data.specs.Table.{a6_fields}
use Rattle.dnw_data.specs.Values.{FieldValue}
use Rattle.dnw_data.proofs.Rows.{fields_hold}
use Rattle.dnw_data.proofs.Taking.{field_some, moves_on}
use Rattle.dnw_record.specs.DataCopies.{data_start, record_kinds}
use Rattle.dnw_record.specs.DataPointers.{FieldFollows, TakesAllPointers, TakesPointers, next_field, no_field, no_fields}
use Rattle.dnw_record.specs.Records.{RecordValue}
use Rattle.dnw_record.proofs.Followed.{own_follows}

-- how many pointers names of these kinds follow at most, if each follows n
abbrev reach : List Kind → ℕ → ℕ
reach [] n = 0
reach (Name form ∷ kinds) n = n + reach kinds n
reach (kind ∷ kinds) n = reach kinds n

follows_few : (k : Kind) (ks : List Kind) (d after : Decoder) (v : FieldValue) (n : ℕ) → TakesField k d v after → length d.bytes ≤ n
    → (j : ℕ) × FieldFollows k d after j × (j + reach ks n ≤ reach (k ∷ ks) n)
follows_few (Name form) ks d after v n (labels, j, takes, is) within =
    let (later, inside) = Reads_own takes.name.reads in
    (j, (labels, takes), omega (arith, Reads_back takes.name.reads, later, inside, within))
follows_few k ks d after v n takes within = (0, own_follows k d after v tt takes, omega arith)

takes_few : (kinds : List Kind) (d : Decoder) (n most : ℕ) → length d.bytes ≤ n → reach kinds n ≤ most
    → (left : ℕ) × TakesPointers kinds d most (Some left) × (most ≤ left + reach kinds n)
takes_few [] d n most within few = (most, no_fields d most, omega arith)
takes_few (k ∷ ks) d n most within few = elim (field_some k d) [
  | inr (e, fails) ↦ (most, no_field k ks d most (e, fails), omega arith)
  | inl (v, after, takes) ↦
      let (j, follows, less) = follows_few k ks d after v n takes within in
      let (later, same) = moves_on k d after v takes in
      let (left, more, rest) = takes_few ks after n (most - j) (omega (arith, within, ap length same)) (omega (arith, few, less)) in
      (left, next_field k ks d after j most (most - j) (Some left) follows (omega (arith, few, less)) more, omega (arith, rest, few, less))
]

-- ---- two names at most

-- so many names at most are among the kinds
abbrev has_few : ℕ → List Kind → Bool
has_few m [] = true
has_few zero (Name form ∷ kinds) = false
has_few (suc m) (Name form ∷ kinds) = has_few m kinds
has_few m (kind ∷ kinds) = has_few m kinds

abbrev times : ℕ → ℕ → ℕ
times zero n = 0
times (suc m) n = n + times m n

reach_few : (m : ℕ) (kinds : List Kind) (n : ℕ) → has_few m kinds ≡ true → reach kinds n ≤ times m n
reach_few m [] n few = omega arith
reach_few zero (Name form ∷ kinds) n few = absurd cc
reach_few (suc m) (Name form ∷ kinds) n few = omega (arith, reach_few m kinds n few)
reach_few m (kind ∷ kinds) n few = reach_few m kinds n few

few_a6 : (prefix : ℕ) → has_few 2 (a6_fields prefix) ≡ true
few_a6 prefix = elim (cases_Bool (prefix == 0)) [ inl none ↦ rw none refl | inr some ↦ rw some refl ]

two_names : (r : RecordValue) → has_few 2 (record_kinds r) ≡ true
two_names r = fields_hold (has_few 2) (record { none = refl; octets = refl; chaos = refl; six = few_a6; rows = refl }) (class_code r.class) (type_code r.record_type) _

-- ---- records

-- the records of a message of n octets at most
abbrev pub most_of : List RecordValue → ℕ → ℕ
most_of [] n = 0
most_of (r ∷ rs) n = n + n + most_of rs n

pub all_few : (rs : List RecordValue) (n most : ℕ) → AllByRecursion (λ (r : RecordValue). length r.message ≤ n) rs → most_of rs n ≤ most
    → (left : ℕ) × TakesAllPointers rs most (Some left) × (most ≤ left + most_of rs n)
all_few [] n most within few = (most, refl, omega arith)
all_few (r ∷ rs) n most (here, others) few =
    let names = reach_few 2 (record_kinds r) n (two_names r) in
    let end : ℕ = r.start + r.len - 0 in
    let taken : length (take end r.message) ≤ n = omega (arith, here, length-take end r.message) in
    let (middle, one, some) = takes_few (record_kinds r) (data_start r) n most taken (omega (arith, names, few)) in
    let (left, more, rest) = all_few rs n middle others (omega (arith, names, few, some)) in
    (left, inr (middle, one, more), omega (arith, names, rest, some, few))

-- those of some and then of others
pub all_then : (rs more : List RecordValue) (most left : ℕ) (end : Option ℕ) → TakesAllPointers rs most (Some left) → TakesAllPointers more left end
    → TakesAllPointers (rs ++ more) most end
all_then [] more most left end is h = let same : left ≡ most = cc in subst (λ n. TakesAllPointers more n end) same h
all_then (r ∷ rs) more most left end (inl (none, wrong)) h = absurd cc
all_then (r ∷ rs) more most left end (inr (middle, one, others)) h = inr (middle, one, all_then rs more middle left end others h)

pub all_lack : (rs more : List RecordValue) (most : ℕ) → TakesAllPointers rs most None → TakesAllPointers (rs ++ more) most None
all_lack [] more most wrong = absurd cc
all_lack (r ∷ rs) more most (inl (none, is)) = inl (none, refl)
all_lack (r ∷ rs) more most (inr (middle, one, others)) = inr (middle, one, all_lack rs more middle others)
