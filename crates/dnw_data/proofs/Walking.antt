-- The fields of data are unique, and the iterator yields them.
use Rattle.std.proofs.Common.{◌≡◌, ℕ, ◌+◌, ◌-◌, ◌≤◌, Option, Some, None, Result, Ok, Err, List, [], ◌∷◌, ◌++◌, length, map, inl, inr, refl, sym, ap, ◌∙◌, subst, arith}
use Rattle.std.specs.Iterator.{AlwaysYields}
use Rattle.std.proofs.lemmas.Bool.{cases_eq}
use Rattle.dnw_base.specs.declared.error.DecodeError.{DecodeError}
use Rattle.dnw_base.specs.declared.error.DecodeError.TheVariants.{IncorrectRDataLengthRead}
use Rattle.dnw_base.specs.Decoder.{Decoder}
use Rattle.dnw_data.specs.declared.kind.Kind.{Kind}
use Rattle.dnw_data.specs.declared.field.Field.{Field}
use Rattle.dnw_data.specs.declared.fields.FieldError.{FieldError}
use Rattle.dnw_data.specs.Values.{FieldValue, seen}
use Rattle.dnw_data.specs.Walks.{FieldsAre, FieldsLeft, TakesNext, FailsNext, NextField, IsAtEnd, IsEnded}
use Rattle.dnw_data.specs.DataLaws.{OneReading, SomeReading, FieldsAreWalked, shown, error_item}
use Rattle.dnw_data.proofs.Taking.{field_some, field_unique, field_not_both, field_one_fault}

next_unique : (kinds left left' : List Kind) (d after after' : Decoder) (v v' : FieldValue) → TakesNext kinds d v after left → TakesNext kinds d v' after' left'
    → (v ≡ v') × (after ≡ after') × (left ≡ left')
next_unique [] left left' d after after' v v' h h' = absurd h
next_unique (kind ∷ kinds) left left' d after after' v v' h h' =
    let (value, there) = field_unique kind d v v' after after' h.0 h'.0 in (value, there, h.1 ∙ sym h'.1)

next_not_both : (kinds left : List Kind) (d after : Decoder) (v : FieldValue) (start : ℕ) (e : DecodeError) → TakesNext kinds d v after left
    → FailsNext kinds d start e → ⊥
next_not_both [] left d after v start e h fails = h
next_not_both (kind ∷ kinds) left d after v start e h fails = field_not_both kind d v after e h.0 fails

next_one_fault : (kinds : List Kind) (d : Decoder) (start : ℕ) (e e' : DecodeError) → FailsNext kinds d start e → FailsNext kinds d start e' → e ≡ e'
next_one_fault [] d start e e' h h' = h.1 ∙ sym h'.1
next_one_fault (kind ∷ kinds) d start e e' h h' = field_one_fault kind d e e' h h'

-- nothing comes after the end
takes_some : (kinds left : List Kind) (d after : Decoder) (v : FieldValue) → TakesNext kinds d v after left → kinds ≡ [] → ⊥
takes_some kinds left d after v h none = rw none at h

fails_some : (kinds : List Kind) (d : Decoder) (start : ℕ) (e : DecodeError) → FailsNext kinds d start e → kinds ≡ [] → IsAtEnd d → ⊥
fails_some [] d start e h none end = h.0 end
fails_some (kind ∷ kinds) d start e h none end = absurd cc

pub one_reading : OneReading
one_reading start kinds d [] [] None None h h' = (refl, refl)
one_reading start kinds d [] [] None (Some e) h h' = absurd (fails_some kinds d start e h' h.0 h.1)
one_reading start kinds d [] [] (Some e) None h h' = absurd (fails_some kinds d start e h h'.0 h'.1)
one_reading start kinds d [] [] (Some e) (Some e') h h' = (refl, ap Some (next_one_fault kinds d start e e' h h'))
one_reading start kinds d [] (v ∷ vs) None o h h' = absurd (takes_some kinds h'.1 d h'.0 v h'.2 h.0)
one_reading start kinds d [] (v ∷ vs) (Some e) o h h' = absurd (next_not_both kinds h'.1 d h'.0 v start e h'.2 h)
one_reading start kinds d (v ∷ vs) [] o None h h' = absurd (takes_some kinds h.1 d h.0 v h.2 h'.0)
one_reading start kinds d (v ∷ vs) [] o (Some e) h h' = absurd (next_not_both kinds h.1 d h.0 v start e h.2 h')
one_reading start kinds d (v ∷ vs) (v' ∷ vs') o o' h h' =
    let (value, there, left) = next_unique kinds h.1 h'.1 d h.0 h'.0 v v' h.2 h'.2 in
    let P : Decoder → List Kind → Type 0 = λ x ks. FieldsAre start ks x vs' o' in
    let h'' = subst (λ x. P x h.1) (sym there) (subst (λ ks. P h'.0 ks) (sym left) h'.3) in
    let (others, outcome) = one_reading start h.1 h.0 vs vs' o o' h.3 h'' in
    (ap (λ x. x ∷ vs) value ∙ ap (λ xs. v' ∷ xs) others, outcome)

-- ---- there is one

pub some_reading : SomeReading
some_reading start [] d =
    elim (cases_eq d.index (length d.bytes)) [
      | inl end ↦ ([], None, (refl, end))
      | inr more ↦ ([], Some (IncorrectRDataLengthRead (d.index - start) (length d.bytes - start)), (more, refl))
    ]
some_reading start (kind ∷ kinds) d =
    elim (field_some kind d) [
      | inl (v, after, h) ↦ let (values, outcome, rest) = some_reading start kinds after in (v ∷ values, outcome, (after, kinds, (h, refl), rest))
      | inr (e, h) ↦ ([], Some e, h)
    ]

-- ---- the iterator

-- the number of the next field
abbrev number : FieldsLeft → ℕ
number left = left.count - length left.kinds

ended : (left : FieldsLeft) → IsEnded left → (x : Result Field FieldError) (j : FieldsLeft) → NextField left (Some x) j → ⊥
ended left end (Ok field) j step = takes_some left.kinds j.kinds left.reader j.reader (seen field) step.0 end.0
ended left end (Err error) j step = fails_some left.kinds left.reader left.start error.cause step.1 end.0 end.1

fault : (left : FieldsLeft) (cause : DecodeError) → FailsNext left.kinds left.reader left.start cause
    → (x : Result Field FieldError) (j : FieldsLeft) → NextField left (Some x) j → (shown x ≡ Err (number left, cause)) × IsEnded j
fault left cause h (Ok field) j step = absurd (next_not_both left.kinds j.kinds left.reader j.reader (seen field) left.start cause step.0 h)
fault left cause h (Err error) j step =
    let same = next_one_fault left.kinds left.reader left.start error.cause cause step.1 h in
    (ap (λ n. Err (n, error.cause)) step.0 ∙ ap (λ e. Err (number left, e)) same, step.2)

count_down : (kinds others : List Kind) (d after : Decoder) (v : FieldValue) → TakesNext kinds d v after others → length kinds ≡ length others + 1
count_down [] others d after v h = absurd h
count_down (kind ∷ kinds) others d after v h = omega (arith, ap length h.1)

goes_on : (left : FieldsLeft) (v : FieldValue) (vs : List FieldValue) (outcome : Option DecodeError)
    → FieldsAre left.start left.kinds left.reader (v ∷ vs) outcome → length left.kinds ≤ left.count
    → (x : Result Field FieldError) (j : FieldsLeft) → NextField left (Some x) j
    → (shown x ≡ Ok v) × FieldsAre j.start j.kinds j.reader vs outcome × (number j ≡ number left + 1) × (length j.kinds ≤ j.count)
goes_on left v vs outcome h few (Err error) j step = absurd (next_not_both left.kinds h.1 left.reader h.0 v left.start error.cause h.2 step.1)
goes_on left v vs outcome h few (Ok field) j step =
    let (value, there, others) = next_unique left.kinds j.kinds h.1 left.reader j.reader h.0 (seen field) v step.0 h.2 in
    let less = count_down left.kinds j.kinds left.reader j.reader (seen field) step.0 in (
      ap Ok value,
      rw (step.1, there, others) h.3,
      omega (arith, less, step.2, few),
      omega (arith, less, step.2, few),
    )

walked : (vs : List FieldValue) (outcome : Option DecodeError) (left : FieldsLeft) → FieldsAre left.start left.kinds left.reader vs outcome
    → length left.kinds ≤ left.count → AlwaysYields NextField shown left (map Ok vs ++ error_item (number left + length vs) outcome)
walked [] None left h few = ended left h
walked [] (Some cause) left h few = (
  λ j step. fails_some left.kinds left.reader left.start cause h step.0.0 step.0.1,
  λ x j step.
      let (is, end) = fault left cause h x j step in
      let none : number left ≡ number left + length {A = FieldValue} [] = omega arith in
      (is ∙ ap (λ n. Err (n, cause)) none, ended j end),
)
walked (v ∷ vs) outcome left h few = (
  λ j step. takes_some left.kinds h.1 left.reader h.0 v h.2 step.0.0,
  λ x j step.
      let (is, rest, next, few') = goes_on left v vs outcome h few x j step in
      let same : number j + length vs ≡ number left + length (v ∷ vs) = omega (arith, next) in
      (is, subst (λ n. AlwaysYields NextField shown j (map Ok vs ++ error_item n outcome)) same (walked vs outcome j rest few')),
)

pub fields_are_walked : FieldsAreWalked
fields_are_walked message start kinds vs outcome h =
    let left : FieldsLeft = record { reader = record { bytes = message; index = start }; start = start; kinds = kinds; count = length kinds } in
    let none : number left + length vs ≡ length vs = omega arith in
    subst (λ n. AlwaysYields NextField shown left (map Ok vs ++ error_item n outcome)) none (walked vs outcome left h (omega arith))
