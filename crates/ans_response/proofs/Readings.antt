-- The names that the data of records are: they can be read, and in one way.
use Rattle.std.proofs.Common.{◌≡◌, ℕ, cond, eqb, List, length, Option, Some, None, Result, Ok, Err, refl, sym, ap, ◌∙◌, subst, inl, inr}
use Rattle.std.proofs.lemmas.Bool.{eq-eqb}
use Rattle.std.proofs.lemmas.Bool.Decides.{eqb_tells}
use Rattle.std.specs.Result.{IsOk, IsOkAnd}
use Rattle.dns_names_wire.specs.Words.{Decoder, FaultAt, NameAt, NameOrFault, NotBoth, OneName, RecordValue, TakesName, record_fields}
use Rattle.dns_names_wire.specs.declared.error.DecodeError.{DecodeError}
use Rattle.ans_response.specs.Counted.{AreTargets, IsTarget, Targets}
use Rattle.ans_response.specs.Laws.{OneTarget, TargetsAreRead}

bytes : RecordValue → List ℕ
bytes r = (record_fields r).reader.bytes

NameThere : List ℕ → ℕ → Type 0
NameThere b p = (ls : List (List ℕ)) × (e : ℕ) × (k : ℕ) × NameAt b p ls e k

FaultThere : List ℕ → ℕ → Type 0
FaultThere b p = (error : DecodeError) × (k : ℕ) × (j : ℕ) × FaultAt b p error k j

abbrev ends_there : List ℕ → ℕ → List (List ℕ) → Option (List (List ℕ))
ends_there b e ls = cond (eqb e (length b)) (Some ls) None

module _ (some : NameOrFault) (both : NotBoth) (one : OneName) where
  abbrev read : RecordValue → Option (List (List ℕ))
  read r = elim (some (record_fields r).reader.bytes (record_fields r).reader.index) [
    | inl (ls, e, k, at) ↦ cond (eqb e (length (record_fields r).reader.bytes)) (Some ls) None
    | inr fault ↦ None
  ]

  read_named : (r : RecordValue) (name : List (List ℕ)) → IsTarget r name → read r ≡ Some name
  read_named r name is =
      elim (some (record_fields r).reader.bytes (record_fields r).reader.index) as (λ x. elim x as (λ _. Option (List (List ℕ))) [
        | inl (ls, e, k, at) ↦ cond (eqb e (length (record_fields r).reader.bytes)) (Some ls) None
        | inr fault ↦ None
      ] ≡ Some name) [
        | inl (ls, e, k, at) ↦
            let same = one (record_fields r).reader.bytes (record_fields r).reader.index ls name e (length (record_fields r).reader.bytes) k is.pointers at is.read in
            rw (eq-eqb e (length (record_fields r).reader.bytes) same.1) (ap (λ (n : List (List ℕ)). Some n) same.0)
        | inr (error, k, j, fault) ↦
            absurd (both (record_fields r).reader.bytes (record_fields r).reader.index name (length (record_fields r).reader.bytes) is.pointers error k j is.read fault)
      ]

  -- Each function that says which names data are says the same.
  read_is : (target : Targets) → AreTargets target → (r : RecordValue) → target r ≡ read r
  read_is target are r =
      elim (some (record_fields r).reader.bytes (record_fields r).reader.index) as (λ x. target r ≡ elim x as (λ _. Option (List (List ℕ))) [
        | inl (ls, e, k, at) ↦ cond (eqb e (length (record_fields r).reader.bytes)) (Some ls) None
        | inr fault ↦ None
      ]) [
        | inl (ls, e, k, at) ↦ elim (eqb_tells e (length (record_fields r).reader.bytes)) [
          | inl (met, same) ↦
              rw met
              (are.named r ls (record {
                pointers = k;
                read = subst (λ n. NameAt (record_fields r).reader.bytes (record_fields r).reader.index ls n k) same at;
              }))
          | inr (unmet, other) ↦
              rw unmet
              (are.others r
              (λ name is. other (one (record_fields r).reader.bytes (record_fields r).reader.index ls name e (length (record_fields r).reader.bytes) k is.pointers at is.read).1))
        ]
        | inr (error, k, j, fault) ↦
            are.others r
            (λ name is. both (record_fields r).reader.bytes (record_fields r).reader.index name (length (record_fields r).reader.bytes) is.pointers error k j is.read fault)
      ]

  read_others : (r : RecordValue) → ((name : List (List ℕ)) → ¬ (IsTarget r name)) → read r ≡ None
  read_others r none =
      elim (some (record_fields r).reader.bytes (record_fields r).reader.index) as (λ x. elim x as (λ _. Option (List (List ℕ))) [
        | inl (ls, e, k, at) ↦ cond (eqb e (length (record_fields r).reader.bytes)) (Some ls) None
        | inr fault ↦ None
      ] ≡ None) [
        | inl (ls, e, k, at) ↦ elim (eqb_tells e (length (record_fields r).reader.bytes)) [
          | inl (met, same) ↦
              absurd (none ls (record {
                pointers = k;
                read = subst (λ n. NameAt (record_fields r).reader.bytes (record_fields r).reader.index ls n k) same at;
              }))
          | inr (unmet, other) ↦ rw unmet refl
        ]
        | inr fault ↦ refl
      ]

  pub targets_are_read : TargetsAreRead
  targets_are_read = (read, record { named = read_named; others = read_others })

  pub one_target : OneTarget
  one_target target other are same r = read_is target are r ∙ sym (read_is other same r)

-- ---- a name that is read up to the end of the data

pub is_target : (r : RecordValue) (before after : Decoder) (name : List (List ℕ)) (k : ℕ) → before ≡ (record_fields r).reader
    → TakesName before after name k → after.index ≡ length after.bytes → IsTarget r name
is_target r before after name k is takes all =
    let ends : takes.end ≡ length before.bytes = cc (all, ap (λ (d : Decoder). d.index) takes.moved, ap (λ (d : Decoder). length d.bytes) takes.moved) in
    record {
      pointers = k;
      read = subst (λ (d : Decoder). NameAt d.bytes d.index name (length d.bytes) k) is (subst (λ n. NameAt before.bytes before.index name n k) ends takes.name);
    }

-- a target is what a decoder takes, and it is at the end then
pub target_taken : (r : RecordValue) (before : Decoder) (name : List (List ℕ)) → before ≡ (record_fields r).reader → (is : IsTarget r name)
    → TakesName before (record { bytes = before.bytes; index = length before.bytes }) name is.pointers
target_taken r before name at is =
    record {
      end = length before.bytes;
      name = subst (λ (d : Decoder). NameAt d.bytes d.index name (length d.bytes) is.pointers) (sym at) is.read;
      moved = refl;
    }

pub front_taken : (d : Decoder) (octets : List ℕ) (labels : List (List ℕ)) (e k : ℕ) → d ≡ record { bytes = octets; index = 0 } → NameAt octets 0 labels e k
    → TakesName d (record { bytes = octets; index = e }) labels k
front_taken d octets labels e k is at =
    subst (λ (d : Decoder). TakesName d (record { bytes = octets; index = e }) labels k) (sym is) (record { end = e; name = at; moved = refl })

-- what holds of a success
pub ok_if : {T E : Type 0} (P : T → Type 0) (r : Result T E) → IsOkAnd r P → IsOk r
ok_if P (Ok x) h = refl
ok_if P (Err e) h = absurd h

pub ok_holds : {T E : Type 0} (P : T → Type 0) (r : Result T E) (x : T) → r ≡ Ok x → IsOkAnd r P → P x
ok_holds {T} {E} P r x is h = subst (λ (s : Result T E). IsOkAnd s P) is h
