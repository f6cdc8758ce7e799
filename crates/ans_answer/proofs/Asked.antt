-- What the records of a name say of a type.
use Rattle.std.proofs.Common.{◌≡◌, ◌==◌, ◌||◌, ℕ, ◌-◌, ◌<◌, ◌≤◌, Bool, true, false, eqb, ltb, List, [], ◌∷◌, length, take, drop, refl, sym, ap, ◌∙◌, inl, inr, arith}
use Rattle.std.proofs.lemmas.Bool.{cases_lt}
use Rattle.std.proofs.lemmas.Bool.Decides.{nat_tests}
use Rattle.std.proofs.lemmas.List.{length-drop, length-take, nil_from_length}
use Rattle.std.specs.List.{list_any}
use Rattle.dns_names_wire.specs.Words.{RecordValue, any_code, type_code}
use Rattle.ans_store.specs.Zones.{have_type}
use Rattle.ans_answer.specs.Outcomes.{is_wanted}

pub asked_by_type : (code : ℕ) (rs : List RecordValue) → eqb code any_code ≡ false → have_type code rs ≡ list_any (is_wanted code) rs
asked_by_type code rs h = sym (ap (λ (b : Bool). list_any (λ (r : RecordValue). b || (type_code r.record_type == code)) rs) h)

some_there : (rs : List RecordValue) → 0 < length rs → list_any (λ _. true) rs ≡ true
some_there [] h = absurd (omega arith)
some_there (r ∷ rs) h = refl

is_below : (a b : ℕ) → a < b → ltb a b ≡ true
is_below a b h = grind (arith, nat_tests)

is_past : (a b : ℕ) → b ≤ a → ltb a b ≡ false
is_past a b h = grind (arith, nat_tests)

any_there : (zs : List RecordValue) (s e : ℕ) → e ≤ length zs → ltb s e ≡ list_any (λ _. true) (take (e - s) (drop s zs))
any_there zs s e within = elim (cases_lt s e) [
  | inl below ↦
      let some : 0 < length (take (e - s) (drop s zs)) = simp (length-take, length-drop) (omega arith) in
      is_below s e below ∙ sym (some_there (take (e - s) (drop s zs)) some)
  | inr past ↦
      let none : length (take (e - s) (drop s zs)) ≡ 0 = simp (length-take, length-drop) (omega arith) in
      is_past s e past ∙ sym (ap (list_any (λ (_ : RecordValue). true)) (nil_from_length (take (e - s) (drop s zs)) none))
]

pub asked_all : (code : ℕ) (zs : List RecordValue) (s e : ℕ) → e ≤ length zs → eqb code any_code ≡ true
    → ltb s e ≡ list_any (is_wanted code) (take (e - s) (drop s zs))
asked_all code zs s e within h =
    any_there zs s e within ∙ sym (ap (λ (b : Bool). list_any (λ (r : RecordValue). b || (type_code r.record_type == code)) (take (e - s) (drop s zs))) h)

pub same_code : (a b : ℕ) → a ≡ b → eqb a b ≡ true
same_code a b h = grind (arith, nat_tests)

pub other_code : (a b : ℕ) → (a ≡ b → ⊥) → eqb a b ≡ false
other_code a b h = grind (arith, nat_tests)
