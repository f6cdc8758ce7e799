-- The first record that is sought, among all records and among those that are record_seen.
use Rattle.std.proofs.Common.{◌≡◌, ◌&&◌, ◌==◌, ℕ, Bool, true, false, List, [], ◌∷◌, Option, Some, None, MatchOption, IfSome, true≢false, refl, sym, ap, ◌∙◌, subst}
use Rattle.std.specs.Option.{option_map}
use Rattle.dns_names_wire.specs.Words.{RecordValue, dname_code, type_code}
use Rattle.ans_response.specs.Counted.{AskedValue, Targets, counted_records, counts, record_seen}
use Rattle.ans_response.specs.Meanings.{first, is_strictly_below, is_sought_at}
use Rattle.ans_response.specs.Seen.{sought_in}
use Rattle.ans_response.specs.declared.sought.Sought.{Sought}
use Rattle.ans_response.specs.declared.sought.Sought.TheVariants as sought

-- the first of some records
abbrev pub head_of : List RecordValue → Option RecordValue
head_of [] = None
head_of (r ∷ rs) = Some r

first_true : (a b : Bool) → (a && b) ≡ true → a ≡ true
first_true true b h = refl
first_true false b h = absurd (true≢false (sym h))

second_true : (a b : Bool) → (a && b) ≡ true → b ≡ true
second_true true b h = h
second_true false b h = absurd (true≢false (sym h))

module _ (target : Targets) (asked : AskedValue) (name : List (List ℕ)) (what : Sought) where
  pub first_is : (records : List RecordValue) → option_map (record_seen target) (head_of (sought_in asked name what records)) ≡ first asked name what (counted_records target asked records)
  unfolding first counted_records
  first_is [] = refl
  first_is (r ∷ records) = by (is_sought_at asked name what r.owner (type_code r.record_type)) (counts asked r) refl refl (first_is records)
    where
      by : (a b : Bool) → is_sought_at asked name what r.owner (type_code r.record_type) ≡ a → counts asked r ≡ b
          → option_map (record_seen target) (head_of (sought_in asked name what records)) ≡ first asked name what (counted_records target asked records)
          → option_map (record_seen target) (head_of (sought_in asked name what (r ∷ records))) ≡ first asked name what (counted_records target asked (r ∷ records))
      by true true h g more = simp (h, g) refl
      by true false h g more = simp (h, g) more
      by false true h g more = simp (h, g) more
      by false false h g more = simp (h, g) more

  pub first_none : (records : List RecordValue) → sought_in asked name what records ≡ [] → None ≡ first asked name what (counted_records target asked records)
  first_none records h = ap (λ (rs : List RecordValue). option_map (record_seen target) (head_of rs)) (sym h) ∙ first_is records

  pub first_some : (records rest : List RecordValue) (r : RecordValue) → sought_in asked name what records ≡ r ∷ rest
      → Some (record_seen target r) ≡ first asked name what (counted_records target asked records)
  first_some records rest r h = ap (λ (rs : List RecordValue). option_map (record_seen target) (head_of rs)) (sym h) ∙ first_is records

  pub first_found : (records rest : List RecordValue) (x : Option RecordValue)
      → MatchOption x (sought_in asked name what records ≡ []) (λ r. sought_in asked name what records ≡ r ∷ sought_in asked name what rest)
      → option_map (record_seen target) x ≡ first asked name what (counted_records target asked records)
  first_found records rest None h = first_none records h
  first_found records rest (Some r) h = first_some records (sought_in asked name what rest) r h

module _ (asked : AskedValue) (name : List (List ℕ)) (what : Sought) where
  -- what is found is sought
  found_sought : (records rest : List RecordValue) (r : RecordValue) → sought_in asked name what records ≡ r ∷ sought_in asked name what rest
      → is_sought_at asked name what r.owner (type_code r.record_type) ≡ true
  found_sought [] rest r h = cc
  found_sought (s ∷ records) rest r h =
      by (is_sought_at asked name what s.owner (type_code s.record_type) && counts asked s) refl (λ g. found_sought records rest r g)
    where
      by : (b : Bool) → (is_sought_at asked name what s.owner (type_code s.record_type) && counts asked s) ≡ b
          → (sought_in asked name what records ≡ r ∷ sought_in asked name what rest → is_sought_at asked name what r.owner (type_code r.record_type) ≡ true)
          → is_sought_at asked name what r.owner (type_code r.record_type) ≡ true
      by true met more =
          let same : s ≡ r = cc (rw met at h) in
          subst (λ (t : RecordValue). is_sought_at asked name what t.owner (type_code t.record_type) ≡ true) same (first_true _ _ met)
      by false unmet more = more (rw unmet at h)

  pub found_is_sought : (records rest : List RecordValue) (x : Option RecordValue)
      → MatchOption x (sought_in asked name what records ≡ []) (λ r. sought_in asked name what records ≡ r ∷ sought_in asked name what rest)
      → IfSome x (λ r. is_sought_at asked name what r.owner (type_code r.record_type) ≡ true)
  found_is_sought records rest None h = tt
  found_is_sought records rest (Some r) h = found_sought records rest r h

pub above_if_sought : (asked : AskedValue) (name owner : List (List ℕ)) (code : ℕ) → is_sought_at asked name sought.AliasAbove owner code ≡ true → is_strictly_below owner name ≡ true
unfolding is_sought_at
above_if_sought asked name owner code h = second_true (code == dname_code) (is_strictly_below owner name) h
